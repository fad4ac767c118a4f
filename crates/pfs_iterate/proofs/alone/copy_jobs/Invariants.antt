use Rattle.std.proofs.Common.{◌≡◌, ◌≤◌, take, vec_capacity}
use Rattle.pfs_iterate.proofs.alone.copy_jobs.Given as goal

abbrev pub invariant-loop-job : goal.invariant-loop-job
invariant-loop-job l = record {
  items : l.list.items ≡ take l.job-index l.jobs;
  capacity : vec_capacity l.fn.list ≤ vec_capacity l.list;
}
