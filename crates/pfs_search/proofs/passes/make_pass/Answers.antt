use Rattle.std.proofs.Common.{arith}
use Rattle.pfs_search.specs.Greedy.{moved}
use Rattle.pfs_search.proofs.InTurn.{fold_more}
use Rattle.pfs_search.proofs.Moving.{move_on}
use Rattle.pfs_search.proofs.passes.make_pass.Goals as goal

pub loop-job-preserved : goal.loop-job-preserved
loop-job-preserved g c =
    let shop = g.B.Bench.shop c.args.bench.now in
    let gives = c.in_ok-span.ensures in
    move_on (λ shop jobs. moved shop jobs c.loop-job.job) (λ shop. g.I.Inserter.cost shop.jobs shop.machines)
    c.loop-job.invariant gives.step.cells.counted gives.step.still gives.made (omega arith)
    (fold_more (moved shop) c.args.seq.now.jobs c.loop-job.job)
