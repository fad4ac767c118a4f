use Rattle.std.proofs.Common.{◌+◌}
use Rattle.pfs_c.specs.Private.Marks.{AreBits}
use Rattle.pfs_c.proofs.given.mark_bits.Given as goal

abbrev pub invariant-loop-next : goal.invariant-loop-next
invariant-loop-next l = AreBits l.size l.jobs l.marks (l.place + l.next)
