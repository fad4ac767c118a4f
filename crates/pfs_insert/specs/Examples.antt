-- Rows as lists of their values, machine by machine.
use Rattle.std.specs.Prelude.{ℕ, List, [], ◌∷◌}

-- the values of a row on the first two machines
abbrev pub row_of : (ℕ → ℕ → ℕ) → ℕ → List ℕ
row_of value row = value row 0 ∷ value row 1 ∷ []

-- the values of the first two rows on the first two machines, row by row
abbrev pub two_rows : (ℕ → ℕ → ℕ) → List ℕ
two_rows value = value 0 0 ∷ value 0 1 ∷ value 1 0 ∷ value 1 1 ∷ []
