use Rattle.std.proofs.Common.{◌*◌}
use Rattle.pfs_c.specs.Private.Marks.{AreBits}
use Rattle.pfs_c.proofs.given.is_short_sequence.Given as goal

abbrev pub invariant-loop-four : goal.invariant-loop-four
invariant-loop-four l = AreBits l.size l.jobs l.marks (4 * l.four)
