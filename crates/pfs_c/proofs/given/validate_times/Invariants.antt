use Rattle.pfs_base.specs.declared.limits.TheConstants.{LONGEST_TIME}
use Rattle.pfs_c.proofs.Times.{AreShortTo}
use Rattle.pfs_c.proofs.given.validate_times.Given as goal

abbrev pub invariant-loop-time : goal.invariant-loop-time
invariant-loop-time l = AreShortTo LONGEST_TIME l.times l.time-index l.longest
