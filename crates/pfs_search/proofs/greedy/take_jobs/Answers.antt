use Rattle.std.proofs.Common.{◌<◌, length, rules, arith, ap}
use Rattle.pfs_order.specs.Sequence.{Sequence}
use Rattle.std.proofs.lemmas.Grind.{common_steps}
use Rattle.pfs_search.proofs.Published.Taking.{taken_more}
use Rattle.pfs_search.proofs.greedy.take_jobs.Goals as goal

pub loop-word-preserved : goal.loop-word-preserved
loop-word-preserved c =
    let size = c.args.order.now.size in
    let done = c.loop-word.taken.items in
    let jobs = c.loop-word.seq.jobs in
    let few : 0 < length jobs = omega (arith, c.loop-word.invariant.jobs) in
    let rest = ap (λ (s : Sequence). s.jobs) c.remove_at-job.ensures.rest in
    record {
      same_size = search rules;
      jobs = first_of (search rules, grind (arith, common_steps));
      left = first_of (search rules, grind (arith, common_steps));
      taken = first_of (search rules, grind (arith, common_steps));
      together = rw (c.push_reserved.ensures.items, rest) (taken_more size done jobs _ c.remove_at-job.result
          (omega (arith, c.len.ensures.value)) c.remove_at-job.ensures.job c.loop-word.invariant.together);
      count = first_of (search rules, grind (arith, common_steps));
      capacity = first_of (search rules, grind (arith, common_steps));
    }
