use Rattle.std.proofs.Common.{ap, subst, refl, ◌∙◌, arith}
use Rattle.pfs_base.specs.FlowShop.{FlowShop}
use Rattle.pfs_order.specs.Sequence.{IsSequence}
use Rattle.pfs_search.specs.Solution.{IsNeh, neh_cells}
use Rattle.pfs_search.proofs.Found.{neh_cost_is, neh_fits}
use Rattle.pfs_search.proofs.search.Search.neh.Goals as goal

pub neh-requires-clause-room : goal.neh-requires-clause-room
neh-requires-clause-room c =
    let lanes = c.take_lanes-lanes.ensures in
    let fits = neh_fits _ c.args.bench.within in
    omega (arith, lanes.counted, neh_cost_is _ _ lanes.shop, fits, c.requires.count, c.requires.room)

pub returns-clause-found : goal.returns-clause-found
returns-clause-found c =
    let still = c.in-Ok.ensures.effect.still in
    let all = still.fit.order_jobs ∙ ap (λ (s : FlowShop). s.jobs) still.shop in
    subst (λ (s : FlowShop). IsNeh s c.neh.new.kept.order c.neh.new.kept.span (neh_cells s))
    c.take_lanes-lanes.ensures.shop
    (record {
      found = c.in-Ok.ensures.order;
      all = all;
      distinct = subst (λ n. IsSequence n c.neh.new.kept.order) all c.len-jobs.ensures.sequence;
      spanned = c.in-Ok.ensures.span;
      counted = refl;
    })

pub returns-clause-counted : goal.returns-clause-counted
returns-clause-counted c =
    let lanes = c.take_lanes-lanes.ensures in
    omega (
      arith,
      c.into_parts-tables.ensures.counted,
      c.in-Ok.ensures.effect.cells.counted,
      lanes.counted,
      neh_cost_is _ _ lanes.shop,
    )
