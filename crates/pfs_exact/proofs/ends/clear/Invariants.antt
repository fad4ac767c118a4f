use Rattle.std.proofs.Common.{◌≤◌, length, take}
use Rattle.pfs_exact.specs.declared.prove.TheConstants.{MOST_PROVED_JOBS}
use Rattle.pfs_exact.specs.Private.Nodes.{AreCleared}
use Rattle.pfs_exact.proofs.ends.clear.Given as goal

abbrev pub invariant-loop-place : goal.invariant-loop-place
invariant-loop-place l = record {
  every : MOST_PROVED_JOBS ≤ length l.marks;
  cleared : AreCleared (take l.place l.seq.jobs) l.fn.marks l.marks;
}
