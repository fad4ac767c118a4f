use Rattle.std.proofs.Common.{◌≡◌, ◌-◌, ◌≤◌, length, drop, reverse, vec_capacity}
use Rattle.pfs_order.specs.Sequence.{all_jobs}
use Rattle.pfs_search.specs.Greedy.{jobs_taken}
use Rattle.pfs_iterate.proofs.rounds.list_jobs.Given as goal

abbrev pub invariant-loop-done : goal.invariant-loop-done
invariant-loop-done l =
    let left = length l.words - l.done in
    record {
      items : l.list.items ≡ reverse (jobs_taken (all_jobs (l.size - left)) (drop left l.words));
      long : length l.list.items ≡ l.done;
      room : vec_capacity l.fn.list ≤ vec_capacity l.list;
    }
