-- The memory of an instance's searches.
use Rattle.std.specs.Prelude.{◌≡◌, ℕ, List, IsSomeAnd}
use Rattle.pfs_base.specs.FlowShop.{FlowShop}
use Rattle.pfs_base.specs.Paths.{makespan}
use Rattle.pfs_wave.specs.Tables.{HasLanes}
use Rattle.pfs_wave.specs.declared.metered.Wavefront.{Wavefront}
use Rattle.pfs_search.specs.SearcherView.{AllFit}
use Rattle.pfs_search.specs.Solution.{InLimits}
use Rattle.pfs_search.specs.declared.rounds.Rounds.{Rounds}
use Rattle.pfs_search.specs.declared.search.Search.{Search}

-- it is made for a shop: it has tables, which are those of the shop, and all else is for shops of its sizes
pub record IsSearchOf (shop : FlowShop) (search : Search) : Type 0 where
  pub lanes : IsSomeAnd search.tables (HasLanes shop)
  pub fit : AllFit shop (λ (front : Wavefront). record { jobs = front.jobs; machines = front.machines }) search.searcher
      search.kept.order

-- rounds within the limits can continue from an order and its makespan
pub record MayContinue (shop : FlowShop) (start : List ℕ) (span first : ℕ) (rounds : Rounds) : Type 0 where
  pub span_is : span ≡ makespan shop start
  pub limits : InLimits shop first rounds
