use Rattle.std.proofs.Common.{subst}
use Rattle.pfs_base.specs.FlowShop.{FlowShop}
use Rattle.pfs_iterate.specs.Alone.{IsChosen}
use Rattle.pfs_c.proofs.kept.Kept.choose.Goals as goal

pub returns-clause-chosen : goal.returns-clause-chosen
returns-clause-chosen c =
    let found = c.choose in
    subst (λ (s : FlowShop). IsChosen s c.args.ties c.args.sequence.now c.args.job found.result.place found.result.span)
    c.self.view_is found.ensures.chosen
