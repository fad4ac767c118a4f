use Rattle.std.proofs.Common.{◌≡◌, length}
use Rattle.pfs_exact.specs.Private.Blocks.{AreShut}
use Rattle.pfs_exact.proofs.eights.shut_others.Given as goal

abbrev pub invariant-loop-job : goal.invariant-loop-job
invariant-loop-job l = record {
  long : length l.shut ≡ length l.fn.shut;
  shut : AreShut l.job l.marks l.shut;
}
