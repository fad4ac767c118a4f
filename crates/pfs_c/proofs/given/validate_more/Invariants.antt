use Rattle.std.proofs.Common.{◌++◌, take}
use Rattle.pfs_order.specs.Sequence.{IsSequence}
use Rattle.pfs_c.proofs.given.validate_more.Given as goal

abbrev pub invariant-loop-place : goal.invariant-loop-place
invariant-loop-place l = IsSequence l.size (l.sequence ++ take l.place l.more)
