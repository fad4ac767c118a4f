-- The first place of the least value.
use Rattle.std.specs.Prelude.{ℕ, ◌≡◌, ◌<◌}
use Rattle.pfs_insert.specs.Insertion.{IsFirstLeast}
use Rattle.pfs_wave.specs.Private.Lanes.{Holding}

-- `place` is the first place below `count` of the least value, and `least` is that value
pub record IsLeastSoFar (value : ℕ → ℕ) (count place least : ℕ) : Type 0 where
  pub first : IsFirstLeast value count place
  pub value_is : least ≡ value place

-- the same for numbers that hold the values
pub record IsLeastHeld (Holds : Holding) (value : ℕ → ℕ) (count place least : ℕ) : Type 0 where
  pub number : ℕ → ℕ
  pub numbers_hold : (at : ℕ) → at < count → Holds (number at) (value at)
  pub least_is : IsLeastSoFar number count place least
