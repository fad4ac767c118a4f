use Rattle.std.proofs.Common.{◌≡◌, ◌*◌, ◌≤◌, ap, subst, sym, ◌∙◌, arith}
use Rattle.rand_pcg.specs.Lcg.{advance}
use Rattle.rand_pcg.specs.Pcg.{multiplier_64}
use Rattle.pfs_base.specs.FlowShop.{FlowShop}
use Rattle.pfs_base.specs.declared.limits.TheConstants.{MOST_ROUNDS}
use Rattle.pfs_base.specs.Paths.{makespan}
use Rattle.pfs_order.specs.Sequence.{IsSequence}
use Rattle.pfs_search.specs.Solution.{IsImproved, rounds_cells}
use Rattle.pfs_search.proofs.Found.{rounds_cost_is, rounds_fit, improved_is}
use Rattle.pfs_search.proofs.search.Search.rounds.Goals as goal

pub rounds-requires-clause-room : goal.rounds-requires-clause-room
rounds-requires-clause-room c =
    let lanes = c.take_lanes-lanes.ensures in
    let rounds = c.args.rounds in
    let cost =
    rounds_cost_is _ _ rounds.count rounds.take rounds.passes lanes.shop c.requires.start.limits.few in
    let limits = c.requires.start.limits in
    let short : rounds.count ≤ MOST_ROUNDS = omega (arith, limits.count) in
    let fits = rounds_fit _ rounds.count rounds.take rounds.passes c.args.bench.within limits.few short limits.passes in
    omega (arith, lanes.counted, cost, fits, c.requires.count, c.requires.room)

pub returns-clause-found : goal.returns-clause-found
returns-clause-found c =
    let rounds = c.args.rounds in
    let lanes = c.take_lanes-lanes.ensures in
    let done = c.in-Ok.ensures in
    let start = c.args.self.now.kept in
    let kept = c.rounds.new.kept in
    let still = done.effect.still in
    let all = still.fit.order_jobs ∙ ap (λ (s : FlowShop). s.jobs) still.shop in
    let few = subst (λ (s : FlowShop). rounds.take ≤ s.jobs) (sym lanes.shop) c.requires.start.limits.few in
    let spanned = subst (λ s. start.span ≡ makespan s start.order) (sym lanes.shop) c.requires.start.span_is in
    let distinct = subst (λ n. IsSequence n kept.order) all c.len-jobs.ensures.sequence in
    let advanced = c.advance.ensures
    ∙ ap (advance 64 multiplier_64 (c.args.first * rounds.take)) c.seed_from_u64-rng.ensures in
    subst (λ (s : FlowShop). IsImproved s start.order c.args.first rounds.count rounds.take rounds.passes rounds.seed
    kept.order kept.span (rounds_cells s rounds.count rounds.take rounds.passes)) lanes.shop
    (improved_is _ c.args.first rounds.count rounds.take rounds.passes rounds.seed c.advance.new.self start.order
    start.span kept.order kept.span few advanced spanned
    (record {
      is_order = done.order;
      is_span = done.span.span_is;
      never_rises = done.span.never_rises;
    }) all distinct)

pub returns-clause-counted : goal.returns-clause-counted
returns-clause-counted c =
    let lanes = c.take_lanes-lanes.ensures in
    let rounds = c.args.rounds in
    let cost =
    rounds_cost_is _ _ rounds.count rounds.take rounds.passes lanes.shop c.requires.start.limits.few in
    omega (arith, c.into_parts-tables.ensures.counted, c.in-Ok.ensures.effect.cells.counted, lanes.counted, cost)
