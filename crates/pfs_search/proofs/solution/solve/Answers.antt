use Rattle.std.proofs.Common.{◌≡◌, ◌+◌, ap, subst, ◌∙◌, arith}
use Rattle.pfs_base.specs.FlowShop.{FlowShop}
use Rattle.pfs_search.specs.Solution.{IsImproved, IsNeh, neh_cells, rounds_cells}
use Rattle.pfs_search.proofs.Found.{neh_fits, found_after, makespan_short}
use Rattle.pfs_search.proofs.solution.solve.Goals as goal

pub rounds-bench-requires-clause-room : goal.rounds-bench-requires-clause-room
rounds-bench-requires-clause-room c =
    let neh = c.neh-bench.ensures in
    omega (arith, neh_fits _ c.metered.result.within, c.metered.ensures.counted, neh.counted, neh.cells)

pub returns-clause-found : goal.returns-clause-found
returns-clause-found c =
    let rounds = c.args.rounds in
    let shop = c.args.instance.now.shop in
    let fresh = c.metered.ensures in
    let neh = c.neh-bench.ensures in
    let done = c.rounds-bench.ensures in
    let start = c.neh-bench.new.self.kept in
    let kept = c.rounds-bench.new.self.kept in
    let same = neh.shop ∙ fresh.shop in
    let begun = subst (λ (s : FlowShop). IsNeh s start.order start.span (neh_cells s)) fresh.shop neh.found in
    let gone_on = subst (λ (s : FlowShop). IsImproved s start.order 0 rounds.count rounds.take rounds.passes rounds.seed
    kept.order kept.span (rounds_cells s rounds.count rounds.take rounds.passes)) same done.found in
    let cells : c.cells.result ≡ neh_cells shop + rounds_cells shop rounds.count rounds.take rounds.passes = omega (
      arith,
      c.cells.ensures,
      done.counted,
      neh.counted,
      fresh.counted,
      ap neh_cells fresh.shop,
      ap (λ s. rounds_cells s rounds.count rounds.take rounds.passes) same,
    ) in
    rw (c.reveal.ensures, cells) (found_after shop rounds.count rounds.take rounds.passes rounds.seed start.order kept.order
    start.span kept.span _ _ begun gone_on)

pub returns-clause-short : goal.returns-clause-short
returns-clause-short c =
    let found = c.rounds-bench.ensures.found in
    let short = makespan_short _ c.rounds-bench.new.self.kept.order c.neh-bench.result.within found.all in
    omega (arith, short, found.spanned, c.reveal.ensures)
