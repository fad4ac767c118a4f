use Rattle.std.proofs.Common.{◌≡◌, ◌≤◌, length, filter, take}
use Rattle.pfs_iterate.specs.Iterated.{is_free}
use Rattle.pfs_iterate.proofs.stay.count_movable.Given as goal

abbrev pub invariant-loop-job : goal.invariant-loop-job
invariant-loop-job l = record {
  few : l.count ≤ l.job-index;
  count : l.count ≡ length (filter (is_free l.stay) (take l.job-index l.behind));
}
