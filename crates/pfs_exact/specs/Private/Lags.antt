-- Jobs by their lags. Jobs and machines count from 0.
use Rattle.std.specs.Prelude.{◌≡◌, ℕ, ◌-◌, ◌<◌, ◌≤◌, min, List, length, map, slice_index, All}
use Rattle.std.specs.List.{slice_index_or}
use Rattle.std.specs.List.Sorted.{IsPermutation}
use Rattle.std.specs.declared.cmp.Reverse.{Reverse}
use Rattle.pfs_base.specs.FlowShop.{FlowShop, time_of}
use Rattle.pfs_order.specs.Sequence.{all_jobs}

-- the shorter one of a job's times on two machines
abbrev pub shorter_of : FlowShop → ℕ → ℕ → ℕ → ℕ
shorter_of shop near far job = min (time_of shop job near) (time_of shop job far)

-- a job's lag: its time across without that on the far machine
abbrev pub lag_of : FlowShop → ℕ → List ℕ → ℕ → ℕ
lag_of shop far across job = slice_index across job - time_of shop job far

-- a lag, and the job that has it
abbrev pub Lag : Type 0
Lag = Reverse ℕ × ℕ

-- all jobs with their lags, the greatest lag first
pub record AreLags (shop : FlowShop) (far : ℕ) (across : List ℕ) (lags : List Lag) : Type 0 where
  pub jobs : IsPermutation (all_jobs shop.jobs) (map (λ (entry : Lag). entry.1) lags)
  pub each : All (λ (entry : Lag). entry.0.0 ≡ lag_of shop far across entry.1) lags
  pub falling : (i j : ℕ) (d : Lag) → i ≤ j → j < length lags
      → (slice_index_or lags j d).0.0 ≤ (slice_index_or lags i d).0.0
