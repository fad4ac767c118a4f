use Rattle.std.proofs.Common.{arith}
use Rattle.pfs_order.specs.Sequence.{all_jobs}
use Rattle.pfs_search.specs.Costs.{pass_cost_on}
use Rattle.pfs_search.specs.Greedy.{pass}
use Rattle.pfs_search.proofs.Moving.{move_on}
use Rattle.pfs_search.proofs.Published.Moves.{passes_more}
use Rattle.pfs_search.proofs.passes.make_passes.Goals as goal

pub loop-done-preserved : goal.loop-done-preserved
loop-done-preserved g c =
    let shop = g.B.Bench.shop c.args.bench.now in
    let gives = c.in_ok-span.ensures in
    move_on pass (pass_cost_on g.I.Inserter.cost) c.loop-done.invariant gives.step.cells.counted gives.step.still
    gives.made (omega arith) (passes_more shop (all_jobs shop.jobs) c.loop-done._done c.args.seq.now.jobs)
