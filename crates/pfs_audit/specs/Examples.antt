-- What order files state, and tables of three rows.
use Rattle.std.specs.Prelude.{ℕ, List, [], ◌∷◌, Option}
use Rattle.pfs_order.specs.Sequence.{StatedOrder}

-- an order file: an order, the machines that are stated for it or none, and the stated makespan
abbrev pub stated : List ℕ → Option ℕ → ℕ → StatedOrder
stated order machines makespan = record { order = order; machines = machines; makespan = makespan }

-- the values of three rows on two machines, row by row
abbrev pub table_of : (ℕ → ℕ → ℕ) → List ℕ
table_of value = value 0 0 ∷ value 0 1 ∷ value 1 0 ∷ value 1 1 ∷ value 2 0 ∷ value 2 1 ∷ []
