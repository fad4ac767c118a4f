use Rattle.std.proofs.Common.{◌≡◌, ℕ, ◌<◌, ◌≤◌, get_or}
use Rattle.pfs_exact.proofs.branch.least_of.Given as goal

abbrev pub invariant-loop-job : goal.invariant-loop-job
invariant-loop-job l = record {
  within : l.least < l.jobs;
  number : l.number ≡ get_or l.bounds l.least 0;
  least : (job : ℕ) → job < l.job → get_or l.bounds l.least 0 ≤ get_or l.bounds job 0;
}
