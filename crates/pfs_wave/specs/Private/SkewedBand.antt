-- One vector of the steps of skewed times.
use Rattle.std.specs.Prelude.{ℕ, suc, ◌≡◌, ◌≢◌, ◌<◌, ◌≤◌, List, length}
use Rattle.pfs_wave.specs.Private.Lanes.{Rows}
use Rattle.pfs_wave.specs.Private.Blending.{past_at, diagonal}
use Rattle.pfs_wave.specs.Private.Blocks.{step_of}

-- vector k of the steps from `from` to before `to` contains the rows, skewed; all else is unchanged
pub record IsFilled (count k : ℕ) (rows : Rows) (from to : ℕ) (old times : List (List ℕ)) : Type 0 where
  pub long : length times ≡ length old
  pub filled : (step : ℕ) → from ≤ step → step < to → step_of count times step k ≡ diagonal (past_at rows (suc step))
  pub before : (step : ℕ) → step < from → step_of count times step k ≡ step_of count old step k
  pub after : (step : ℕ) → to ≤ step → step_of count times step k ≡ step_of count old step k
  pub others : (step j : ℕ) → j < count → j ≢ k → step_of count times step j ≡ step_of count old step j
