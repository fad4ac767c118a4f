use Rattle.std.proofs.Common.{◌≡◌, map, rules, subst, sym, arith}
use Rattle.std.proofs.lemmas.Grind.{common_steps}
use Rattle.std.proofs.lemmas.List.{map-append}
use Rattle.std.proofs.lemmas.List.Elements.{All-push}
use Rattle.std.proofs.lemmas.List.Sorted.{All-permutation, IsPermutation-map}
use Rattle.std.specs.List.Sorted.{IsPermutation}
use Rattle.pfs_order.proofs.Published.Sequences.{all_jobs_more}
use Rattle.pfs_audit.proofs.Published.Ranges.{sum_by-below-more}
use Rattle.pfs_exact.specs.Private.Lags.{Lag, lag_of, shorter_of}
use Rattle.pfs_exact.proofs.JobsByLag.{falls}
use Rattle.pfs_exact.proofs.pairs.list_lags.Goals as goal

pub loop-job-preserved : goal.loop-job-preserved
loop-job-preserved c =
    let shop = c.args.instance.now.shop in
    let listed = c.loop-job.lags.items in
    let job = c.loop-job.job in
    let invariant = c.loop-job.invariant in
    let pushed = c.push_reserved.ensures.items in
    let more = sum_by-below-more (shorter_of shop c.args.near c.args.far) job in
    record {
      jobs = rw pushed (rw (map-append (λ (entry : Lag). entry.1) listed, invariant.jobs) (sym (all_jobs_more job)));
      each = rw pushed (All-push (λ (entry : Lag). entry.0.0 ≡ lag_of shop c.args.far c.args.across.now entry.1) listed _
          invariant.each (omega arith));
      sum = omega arith;
      count = first_of (search rules, grind (arith, common_steps));
      room = first_of (search rules, grind (arith, common_steps));
    }

pub returns-clause-lags : goal.returns-clause-lags
returns-clause-lags c =
    let shop = c.args.instance.now.shop in
    let listed = c.loop-job.lags.items in
    let sorted = c.sort_unstable.new.self.items in
    let moved = c.sort_unstable.ensures.permutation in
    let all : c.loop-job.job ≡ shop.jobs = omega arith in
    record {
      jobs = subst (λ jobs. IsPermutation jobs (map (λ (entry : Lag). entry.1) sorted)) (rw all at c.loop-job.invariant.jobs)
          (IsPermutation-map (λ (entry : Lag). entry.1) listed sorted moved);
      each = All-permutation (λ (entry : Lag). entry.0.0 ≡ lag_of shop c.args.far c.args.across.now entry.1) listed sorted
          moved c.loop-job.invariant.each;
      falling = falls sorted c.sort_unstable.ensures.sorted;
    }
