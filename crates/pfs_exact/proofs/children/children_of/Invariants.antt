use Rattle.pfs_exact.proofs.Bounds.{AreFound}
use Rattle.pfs_exact.proofs.children.children_of.Given as goal

abbrev pub invariant-loop-job : goal.invariant-loop-job
invariant-loop-job l = AreFound l.instance.shop l.ends l.job l.room
