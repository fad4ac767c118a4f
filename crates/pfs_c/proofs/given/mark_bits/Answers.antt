use Rattle.std.proofs.Common.{◌≡◌, ◌+◌, arith}
use Rattle.pfs_c.proofs.Bits.{one_more_bit}
use Rattle.pfs_c.proofs.given.mark_bits.Goals as goal

pub loop-next-preserved : goal.loop-next-preserved
loop-next-preserved c =
    let at = c.loop-next in
    let here = c.args.place + at.next in
    let after : c.args.place + (at.next + 1) ≡ here + 1 = omega arith in
    rw after (one_more_bit c.args.size c.args.jobs.now at.marks here at.invariant c.requires.size
    (omega (arith, c.requires.place, c.loop-next-test.true)) c.if-job-size.false)
