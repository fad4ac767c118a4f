use Rattle.std.proofs.Common.{◌*◌}
use Rattle.pfs_base.specs.Heads.{AreHeads}
use Rattle.pfs_base.proofs.heads.span_of.Given as goal

abbrev pub invariant-loop-pair : goal.invariant-loop-pair
invariant-loop-pair l = AreHeads l.instance.shop l.sequence (2 * l.pair) l.heads
