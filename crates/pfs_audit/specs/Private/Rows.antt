-- Lists of values, row by row.
use Rattle.std.specs.Prelude.{◌≡◌, ℕ, ◌+◌, ◌*◌, ◌<◌, List, length, slice_index}

-- a list of `rows` rows, each of one value for each machine
pub record AreRows (value : ℕ → ℕ → ℕ) (machines rows : ℕ) (items : List ℕ) : Type 0 where
  pub size : length items ≡ rows * machines
  pub entries : (row machine : ℕ) → row < rows → machine < machines
      → slice_index items (row * machines + machine) ≡ value row machine
