use Rattle.std.proofs.Common.{◌≡◌, rules, arith}
use Rattle.std.proofs.lemmas.Grind.{common_steps}
use Rattle.std.proofs.lemmas.List.Elements.{All-push}
use Rattle.pfs_base.specs.FlowShop.{total_of}
use Rattle.pfs_search.proofs.SortedJobs.{Listed, listed_more}
use Rattle.pfs_search.proofs.rankings.list_totals.Goals as goal

pub loop-job-preserved : goal.loop-job-preserved
loop-job-preserved g c =
    let shop = g.B.Bench.shop c.args.bench.now in
    let listed = c.loop-job.listed.items in
    let job = c.loop-job.job in
    let pushed = c.push_reserved.ensures.items in
    record {
      jobs = rw pushed (listed_more listed c.total.result job c.loop-job.invariant.jobs);
      totals = rw pushed (All-push (λ (entry : Listed). entry.0.0 ≡ total_of shop entry.1) listed _
          c.loop-job.invariant.totals c.total.ensures);
      count = first_of (search rules, grind (arith, common_steps));
      capacity = first_of (search rules, grind (arith, common_steps));
    }
