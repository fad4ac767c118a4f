use Rattle.std.proofs.Common.{◌*◌, fold}
use Rattle.pfs_order.specs.Sequence.{all_jobs}
use Rattle.pfs_search.specs.Greedy.{moved}
use Rattle.pfs_search.proofs.Moving.{IsMoved}
use Rattle.pfs_search.proofs.passes.make_pass.Given as goal

-- the jobs so far have moved
abbrev pub invariant-loop-job : goal.invariant-loop-job
invariant-loop-job g l = let shop = g.B.Bench.shop l.fn.bench in
    IsMoved shop (g.B.Bench.shop l.bench) (g.I.Inserter.sizes l.inserter) l.seq (g.B.Bench.counted l.fn.bench)
    (g.B.Bench.counted l.bench) (l.job * g.I.Inserter.cost shop.jobs shop.machines)
    (fold (moved shop) l.fn.seq.jobs (all_jobs l.job)) (g.B.Span.Length.number l.span)
