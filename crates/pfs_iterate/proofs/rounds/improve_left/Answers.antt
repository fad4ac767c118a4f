use Rattle.std.proofs.Common.{length, ap, arith}
use Rattle.pfs_order.proofs.Published.Sequences.{length-le-size}
use Rattle.pfs_iterate.proofs.rounds.improve_left.Goals as goal

pub span_of-span-requires-clause-few : goal.span_of-span-requires-clause-few
span_of-span-requires-clause-few c =
    let seq = c.args.work.now.seq in
    omega (
      arith,
      ap length c.as_slice.ensures.value,
      length-le-size seq.size seq.jobs c.as_slice.ensures.sequence,
      c.requires.work.size,
    )
