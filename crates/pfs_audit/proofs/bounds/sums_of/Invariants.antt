use Rattle.pfs_audit.specs.Private.Sums.{AreSumsOf}
use Rattle.pfs_audit.proofs.bounds.sums_of.Given as goal

abbrev pub invariant-loop-job : goal.invariant-loop-job
invariant-loop-job l = AreSumsOf l.instance.shop l.job l.sums
