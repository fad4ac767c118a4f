use Rattle.std.proofs.Common.{subst, ◌∙◌}
use Rattle.pfs_base.specs.FlowShop.{FlowShop}
use Rattle.pfs_insert.specs.Inserter.{IsBestPlace}
use Rattle.pfs_c.proofs.kept.Kept.insert.Goals as goal

pub returns-clause-best : goal.returns-clause-best
returns-clause-best c =
    let best = c.best-best in
    rw c.reveal.ensures (subst (λ (s : FlowShop). IsBestPlace s c.args.sequence.now c.args.job best.result.place
    best.result.span) (c.metered-bench.ensures.shop ∙ c.self.view_is) best.ensures.best)
