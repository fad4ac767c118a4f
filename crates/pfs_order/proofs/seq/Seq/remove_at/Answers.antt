use Rattle.std.proofs.Common.{◌<◌, length, subst, sym, arith}
use Rattle.pfs_order.specs.Sequence.{Sequence}
use Rattle.pfs_order.proofs.Published.Sequences.{IsSequence-remove}
use Rattle.pfs_order.proofs.seq.Seq.remove_at.Goals as goal

pub invariant_of-self : goal.invariant_of-self
invariant_of-self c =
    let within = subst (λ (s : Sequence). c.args.place < length s.jobs) (sym c.self.view_is) c.requires in
    let left = IsSequence-remove _ _ _ _ within c.remove.ensures.value c.self.invariant.sequence in
    record {
      accepted = c.self.invariant.accepted;
      sequence = rw c.remove.ensures.items left;
      room = omega (arith, c.remove.ensures.capacity);
    }
