use Rattle.std.proofs.Common.{◌≡◌, ◌++◌, take}
use Rattle.pfs_exact.proofs.branch.join.Given as goal

abbrev pub invariant-loop-place : goal.invariant-loop-place
invariant-loop-place l = record {
  size : l.whole.size ≡ l.ends.front.size;
  jobs : l.whole.jobs ≡ l.ends.front.jobs ++ take l.place l.ends.back.jobs;
}
