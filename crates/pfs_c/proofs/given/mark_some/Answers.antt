use Rattle.std.proofs.Common.{◌≡◌, ◌+◌, ◌<◌, arith}
use Rattle.pfs_c.proofs.Marks.{one_more_marked}
use Rattle.pfs_c.proofs.given.mark_some.Goals as goal

pub loop-next-2-preserved : goal.loop-next-2-preserved
loop-next-2-preserved c =
    let at = c.loop-next-2 in
    let here = c.args.place + at.next in
    let before : at.next < c.loop-next.next = omega (arith, c.loop-next-test.false, c.loop-next-2-test.true) in
    let same = c.loop-next.invariant.same at.next before in
    let below = rw same at (c.loop-next.invariant.below at.next before) in
    let after : c.args.place + (at.next + 1) ≡ here + 1 = omega arith in
    rw (same, after) (one_more_marked c.args.size c.args.jobs.now at.marks at.is_repeated here at.invariant _
    (omega (arith, c.requires.place, c.loop-next-2-test.true)) below)
