use Rattle.std.proofs.Common.{◌*◌}
use Rattle.pfs_search.specs.Costs.{pass_cost_on}
use Rattle.pfs_search.specs.Greedy.{after_passes}
use Rattle.pfs_search.proofs.Moving.{IsMoved}
use Rattle.pfs_search.proofs.passes.make_passes.Given as goal

-- the passes so far are made
abbrev pub invariant-loop-done : goal.invariant-loop-done
invariant-loop-done g l = let shop = g.B.Bench.shop l.fn.bench in
    IsMoved shop (g.B.Bench.shop l.bench) (g.I.Inserter.sizes l.inserter) l.seq (g.B.Bench.counted l.fn.bench)
    (g.B.Bench.counted l.bench) (l._done * pass_cost_on g.I.Inserter.cost shop)
    (after_passes shop l._done l.fn.seq.jobs) (g.B.Span.Length.number l.span)
