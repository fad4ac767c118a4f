use Rattle.std.proofs.Common.{arith}
use Rattle.pfs_order.proofs.Published.Sequences.{IsSequence-nil}
use Rattle.pfs_order.proofs.seq.Seq.new.Goals as goal

pub invariant_of-result : goal.invariant_of-result
invariant_of-result c = record {
  accepted = record { some = c.requires.some; few = c.requires.few };
  sequence = rw c.in-Ok.ensures.items (IsSequence-nil c.args.size);
  room = omega (arith, c.in-Ok.ensures.capacity);
}
