use Rattle.std.proofs.Common.{◌≡◌, ◌≤◌, length, filter, take, vec_capacity}
use Rattle.pfs_iterate.specs.Iterated.{is_free}
use Rattle.pfs_iterate.specs.Private.Steps.{ranks_of}
use Rattle.pfs_iterate.proofs.stay.rank_staying.Given as goal

abbrev pub invariant-loop-job : goal.invariant-loop-job
invariant-loop-job l = record {
  few : l.free ≤ l.job-index;
  long : length l.ranks.items ≤ l.job-index;
  count : l.free ≡ length (filter (is_free l.stay) (take l.job-index l.behind));
  ranks : l.ranks.items ≡ ranks_of (is_free l.stay) (take l.job-index l.behind);
  room : vec_capacity l.fn.ranks ≤ vec_capacity l.ranks;
}
