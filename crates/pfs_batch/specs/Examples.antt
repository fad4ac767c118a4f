-- Eight orders for worked examples.
use Rattle.std.specs.Prelude.{ℕ, List, [], ◌∷◌}

-- eight orders of three jobs, one after the other
abbrev pub eight_orders : List ℕ
eight_orders = 0 ∷ 1 ∷ 2 ∷ 1 ∷ 0 ∷ 2 ∷ 0 ∷ 2 ∷ 1 ∷ 2 ∷ 0 ∷ 1 ∷ 1 ∷ 2 ∷ 0 ∷ 0 ∷ 1 ∷ 2 ∷ 1 ∷ 0 ∷ 2 ∷ 2 ∷ 1 ∷ 0 ∷ []
