use Rattle.std.proofs.Common.{◌≡◌, ℕ, ap, subst, arith}
use Rattle.pfs_base.specs.FlowShop.{FlowShop}
use Rattle.pfs_search.specs.Solution.{IsImproved, rounds_cells}
use Rattle.pfs_search.specs.declared.kept.Kept.{Kept}
use Rattle.pfs_search.proofs.Found.{makespan_short}
use Rattle.pfs_search.proofs.solution.improve.Goals as goal

pub returns-clause-found : goal.returns-clause-found
returns-clause-found c =
    let rounds = c.args.rounds in
    let fresh = c.metered.ensures in
    let kept = c.rounds-bench.new.self.kept in
    let done = c.rounds-bench.ensures in
    let cells : c.cells.result ≡ rounds_cells c.args.instance.now.shop rounds.count rounds.take rounds.passes = omega (
      arith,
      c.cells.ensures,
      done.counted,
      fresh.counted,
      ap (λ s. rounds_cells s rounds.count rounds.take rounds.passes) fresh.shop,
    ) in
    let start = c.in_ok-search-2.field-0 in
    let begun = ap (λ (k : Kept ℕ). k.order) c.in_ok-search-2.ensures in
    rw (c.reveal.ensures, cells, ← begun) (subst (λ (s : FlowShop). IsImproved s start.order c.args.first rounds.count rounds.take
    rounds.passes rounds.seed kept.order kept.span (rounds_cells s rounds.count rounds.take rounds.passes)) fresh.shop
    done.found)

pub returns-clause-short : goal.returns-clause-short
returns-clause-short c =
    let found = c.rounds-bench.ensures.found in
    let short = makespan_short _ c.rounds-bench.new.self.kept.order c.metered.result.within found.all in
    omega (arith, short, found.spanned, c.reveal.ensures)
