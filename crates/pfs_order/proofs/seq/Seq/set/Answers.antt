use Rattle.std.proofs.Common.{subst, sym, arith}
use Rattle.pfs_order.specs.Sequence.{Sequence, IsSequence}
use Rattle.pfs_order.proofs.Published.Sequences.{length-le-size}
use Rattle.pfs_order.proofs.seq.Seq.set.Goals as goal

pub copy_in_room-requires : goal.copy_in_room-requires
copy_in_room-requires c =
    let jobs = subst (λ (s : Sequence). IsSequence s.size c.args.jobs.now) (sym c.self.view_is) c.requires in
    omega (arith, length-le-size _ _ jobs, c.self.invariant.room)
