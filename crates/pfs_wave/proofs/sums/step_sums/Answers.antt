use Rattle.std.proofs.Common.{◌+◌, ◌-◌, map, get_or, ap, ◌∙◌, refl, arith}
use Rattle.pfs_wave.specs.Private.Blocks.{vectors_of}
use Rattle.pfs_wave.proofs.StepTables.{read, read_as}
use Rattle.pfs_wave.proofs.TailCells.{changed}
use Rattle.pfs_wave.proofs.SumCells.{moved_up, step_sums_none, step_sums_more, step_summed}
use Rattle.pfs_wave.proofs.sums.step_sums.Goals as goal

pub loop-k-init : goal.loop-k-init
loop-k-init g c =
    let lanes = g.V.Band.lanes in
    let kept = g.V.Times.Stored.lanes in
    let before = c.args.before.now in
    let heads = c.args.heads.now in
    let last = c.index-heads.result in
    let some = c.requires.some in
    let long = c.type_inv.heads in
    step_sums_none g.V.Band.Holds g.V.Band.itself lanes g.row.N (vectors_of (map kept c.args.times.now))
    (vectors_of (map lanes c.args.tails.now)) (vectors_of (map lanes c.args.job.now)) some
    (vectors_of (map lanes heads)) (lanes before.inserted) (lanes before.sum) heads
    (lanes (get_or heads (g.row.N - 1) last)) (lanes c.up-inserted.result) (lanes c.up-sum.result)
    (lanes c.up-head.result) (read lanes heads (g.row.N - 1) last (omega arith))
    (moved_up _ _ c.up-inserted.ensures) (moved_up _ _ c.up-sum.ensures) (moved_up _ _ c.up-head.ensures) long (λ k. refl)

pub loop-k-preserved : goal.loop-k-preserved
loop-k-preserved g c =
    let lanes = g.V.Band.lanes in
    let kept = g.V.Times.Stored.lanes in
    let Holds = g.V.Band.Holds in
    let before = c.args.before.now in
    let heads = c.loop-k.heads in
    let k = c.loop-k.k in
    let so_far = c.loop-k.invariant in
    let long = so_far.long in
    let inside = c.loop-k-test.true in
    let times = c.args.times.now in
    let tails = c.args.tails.now in
    let job = c.args.job.now in
    let same_times = c.requires.times in
    let same_tails = c.requires.tails in
    let same_job = c.type_inv.job in
    let inserted = c.next_value-inserted.result in
    let above = read lanes heads k c.index-heads-k.result (omega arith) in
    let tail = read_as lanes tails k c.index-tails-k.result (omega arith) c.index-tails-k.is in
    step_sums_more Holds g.V.Band.itself lanes g.row.N (vectors_of (map kept times)) (vectors_of (map lanes tails))
    (vectors_of (map lanes job)) c.requires.some (vectors_of (map lanes c.args.heads.now)) (lanes before.inserted)
    (lanes before.sum) heads (lanes c.loop-k.inserted) (lanes c.loop-k.sum) (lanes c.loop-k.head) k
    c.next_value-head.result (lanes inserted) (lanes c.greater-sum.result) so_far inside
    (rw (above, read lanes job k c.index-job-k.result (omega arith)) at c.next_value-inserted.ensures)
    (λ lane a b t lt p q r. c.greater-sum.ensures lane a (b + t) lt p (c.sum.ensures lane b t lt q
    (changed Holds (ap (λ v. get_or v lane 0) tail) refl r)))
    (rw (above, c.load.ensures ∙ read_as kept times k c.index-times-k.result (omega arith) c.index-times-k.is) at
    c.next_value-head.ensures)

pub returns-clause-cells : goal.returns-clause-cells
returns-clause-cells g c t rows step are times_are none tails_are job_is summed =
    let lanes = g.V.Band.lanes in
    let outside = c.loop-k-test.false in
    step_summed g.V.Band.Holds lanes g.row.N rows step t c.loop-k.heads (lanes c.loop-k.inserted) (lanes c.loop-k.sum)
    (lanes c.loop-k.head) c.loop-k.k (c.loop-k.invariant.cells t rows step are times_are none tails_are job_is summed)
    (omega arith)
