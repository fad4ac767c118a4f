-- The best of the first `count` places.
use Rattle.std.specs.Prelude.{◌≡◌, ℕ}
use Rattle.pfs_insert.specs.Insertion.{IsFirstLeast}

-- `place` is the first place below `count` of the least value, and the length `span` is that value
pub record IsBest {X : Type 0} (number : X → ℕ) (value : ℕ → ℕ) (count place : ℕ) (span : X) : Type 0 where
  pub first : IsFirstLeast value count place
  pub value_is : number span ≡ value place
