use Rattle.std.proofs.Common.{take}
use Rattle.pfs_order.specs.Sequence.{IsSequence}
use Rattle.pfs_c.proofs.asking.faulty_place.Given as goal

abbrev pub invariant-loop-place : goal.invariant-loop-place
invariant-loop-place l = IsSequence l.size (take l.place l.jobs)
