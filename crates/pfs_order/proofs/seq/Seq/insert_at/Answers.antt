use Rattle.std.proofs.Common.{◌<◌, Contains, subst, sym, arith}
use Rattle.pfs_order.specs.Sequence.{Sequence}
use Rattle.pfs_order.proofs.Published.Sequences.{IsSequence-insert, length-lt-size}
use Rattle.pfs_order.proofs.seq.Seq.insert_at.Goals as goal

pub put_in_room-requires-clause-room : goal.put_in_room-requires-clause-room
put_in_room-requires-clause-room c =
    let small = subst (λ (s : Sequence). c.args.job < s.size) (sym c.self.view_is) c.requires.in_range in
    let absent = subst (λ (s : Sequence). Contains s.jobs c.args.job → ⊥) (sym c.self.view_is) c.requires.absent in
    let fewer = length-lt-size _ _ _ small absent c.self.invariant.sequence in
    omega (arith, fewer, c.self.invariant.room, c.self.inside.jobs.ok.0)

pub invariant_of-self : goal.invariant_of-self
invariant_of-self c =
    let small = subst (λ (s : Sequence). c.args.job < s.size) (sym c.self.view_is) c.requires.in_range in
    let absent = subst (λ (s : Sequence). Contains s.jobs c.args.job → ⊥) (sym c.self.view_is) c.requires.absent in
    let more = IsSequence-insert _ c.args.place _ _ small absent c.self.invariant.sequence in
    record {
      accepted = c.self.invariant.accepted;
      sequence = rw c.put_in_room.ensures.items more;
      room = omega arith;
    }
