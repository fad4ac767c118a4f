use Rattle.std.proofs.Common.{◌*◌}
use Rattle.pfs_c.specs.Private.Marks.{AreMarked}
use Rattle.pfs_c.proofs.given.is_sequence.Given as goal

abbrev pub invariant-loop-four : goal.invariant-loop-four
invariant-loop-four l = AreMarked l.size l.jobs l.marks l.is_repeated (4 * l.four)
