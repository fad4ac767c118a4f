-- The contract of every inserter.
use Rattle.std.specs.Prelude.{◌≡◌, ℕ, ◌+◌, ◌≤◌, List, length, Result, OnOk, OnErr}
use Rattle.pfs_base.specs.FlowShop.{FlowShop}
use Rattle.pfs_insert.specs.Insertion.{best_place, makespan_with}

-- the numbers of jobs and machines of the shops that an inserter was made for
pub record Sizes : Type 0 where
  pub jobs : ℕ
  pub machines : ℕ

-- an inserter of these sizes, and a sequence made for `size` jobs, were made for shops of the sizes of `shop`
pub record Fits (shop : FlowShop) (inserter : Sizes) (size : ℕ) : Type 0 where
  pub seq_jobs : size ≡ shop.jobs
  pub own_jobs : inserter.jobs ≡ shop.jobs
  pub own_machines : inserter.machines ≡ shop.machines

-- `place` is the best place of a job in a sequence, and `span` is the makespan with the job there
pub record IsBestPlace (shop : FlowShop) (jobs : List ℕ) (job place span : ℕ) : Type 0 where
  pub place_is : place ≡ best_place shop jobs job
  pub within : place ≤ length jobs
  pub span_is : span ≡ makespan_with shop jobs job place

-- the count of cells before and after a call: one that succeeds adds `cost`, one that fails at most `cost`
pub record Counts {A E : Type 0} (result : Result A E) (before after cost : ℕ) : Type 0 where
  pub counted : OnOk result (after ≡ before + cost)
  pub fault_low : OnErr result (before ≤ after)
  pub fault_high : OnErr result (after ≤ before + cost)
