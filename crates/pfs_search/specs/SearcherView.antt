-- A searcher in contracts.
use Rattle.std.specs.Prelude.{◌≡◌, ℕ, ◌≤◌, Bool, false, List, length, IsOk, Result}
use Rattle.pfs_base.specs.declared.limits.TheConstants.{MOST_PASSES}
use Rattle.pfs_base.specs.FlowShop.{FlowShop}
use Rattle.pfs_base.specs.Paths.{makespan}
use Rattle.pfs_insert.specs.Inserter.{Counts, Sizes}

-- the number of jobs that a searcher was made for, and its inserter
pub record SearcherView (I : Type 0) : Type 0 where
  pub size : ℕ
  pub inserter : I

-- a searcher, its inserter and the order that is kept are for shops of the sizes of `shop`
pub record AllFit {I : Type 0} (shop : FlowShop) (sizes : I → Sizes) (searcher : SearcherView I) (order : List ℕ)
    : Type 0 where
  pub own_jobs : searcher.size ≡ shop.jobs
  pub inserter_jobs : (sizes searcher.inserter).jobs ≡ shop.jobs
  pub inserter_machines : (sizes searcher.inserter).machines ≡ shop.machines
  pub order_jobs : length order ≡ shop.jobs

-- the shop is the same as before, and the searcher, its inserter and the order that is kept are for shops of its sizes
pub record StillFit {I : Type 0} (before after : FlowShop) (sizes : I → Sizes) (searcher : SearcherView I)
    (order : List ℕ) : Type 0 where
  pub shop : after ≡ before
  pub fit : AllFit after sizes searcher order

-- what a search does: its cells are counted, it succeeds if the inserter can't fail, and everything still fits
pub record Searches {A E I : Type 0} (result : Result A E) (can_fail : Bool) (before after cost : ℕ)
    (old new : FlowShop) (sizes : I → Sizes) (searcher : SearcherView I) (order : List ℕ) : Type 0 where
  pub cells : Counts result before after cost
  pub succeeds : can_fail ≡ false → IsOk result
  pub still : StillFit old new sizes searcher order

-- rounds can continue from an order, whose makespan is `span`: each removes at least one job and at most all jobs, and
-- makes at most as many passes as the limit says
pub record MayPlay {I : Type 0} (shop : FlowShop) (sizes : I → Sizes) (searcher : SearcherView I) (order : List ℕ)
    (span take passes : ℕ) : Type 0 where
  pub fit : AllFit shop sizes searcher order
  pub span_is : span ≡ makespan shop order
  pub some : 1 ≤ take
  pub few : take ≤ shop.jobs
  pub few_passes : passes ≤ MOST_PASSES

-- the makespan of an order, which is at most that of the order before
pub record IsKeptSpan (shop : FlowShop) (old_span : ℕ) (order : List ℕ) (span : ℕ) : Type 0 where
  pub span_is : span ≡ makespan shop order
  pub never_rises : span ≤ old_span
