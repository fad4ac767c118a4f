use Rattle.std.proofs.Common.{◌≡◌, ◌≤◌, map, take, vec_capacity}
use Rattle.pfs_search.proofs.rankings.copy_jobs.Given as goal

abbrev pub invariant-loop-job : goal.invariant-loop-job
invariant-loop-job l = record {
  jobs : l.jobs.items ≡ map (λ entry. entry.1) (take l.job-index l.listed);
  capacity : vec_capacity l.fn.jobs ≤ vec_capacity l.jobs;
}
