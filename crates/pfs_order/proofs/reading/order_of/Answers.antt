use Rattle.std.proofs.Common.{arith}
use Rattle.pfs_order.proofs.JobOrders.{taken_size, jobs_step}
use Rattle.pfs_order.proofs.reading.order_of.Goals as goal

pub loop-number-preserved : goal.loop-number-preserved
loop-number-preserved c =
    let size = taken_size _ _ _ c.in_ok-add_job.ensures.ok in
    let step = jobs_step c.args.numbers.now c.loop-number.seq c.loop-number.number-index (omega arith) in
    grind (arith, c.loop-number.invariant, c.in_ok-add_job.ensures.ok)
