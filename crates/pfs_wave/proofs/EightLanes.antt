-- Eight lanes.
use Rattle.std.proofs.Common.{◌≡◌, ℕ, List, [], ◌∷◌, ◌++◌, length, drop, get_or, refl, arith}
use Rattle.pfs_wave.specs.Private.Lanes.{zeros}

pub eight_lanes : (xs : List ℕ) → length xs ≡ 8
    → xs ≡ get_or xs 0 0 ∷ get_or xs 1 0 ∷ get_or xs 2 0 ∷ get_or xs 3 0 ∷ get_or xs 4 0 ∷ get_or xs 5 0
    ∷ get_or xs 6 0 ∷ get_or xs 7 0 ∷ []
eight_lanes [] long = absurd (omega arith)
eight_lanes (a ∷ []) long = absurd (omega arith)
eight_lanes (a ∷ b ∷ []) long = absurd (omega arith)
eight_lanes (a ∷ b ∷ c ∷ []) long = absurd (omega arith)
eight_lanes (a ∷ b ∷ c ∷ d ∷ []) long = absurd (omega arith)
eight_lanes (a ∷ b ∷ c ∷ d ∷ e ∷ []) long = absurd (omega arith)
eight_lanes (a ∷ b ∷ c ∷ d ∷ e ∷ f ∷ []) long = absurd (omega arith)
eight_lanes (a ∷ b ∷ c ∷ d ∷ e ∷ f ∷ g ∷ []) long = absurd (omega arith)
eight_lanes (a ∷ b ∷ c ∷ d ∷ e ∷ f ∷ g ∷ h ∷ []) long = refl
eight_lanes (a ∷ b ∷ c ∷ d ∷ e ∷ f ∷ g ∷ h ∷ i ∷ rest) long = absurd (omega arith)

-- the lanes after the first, and a zero
pub lanes_down : (xs : List ℕ) → length xs ≡ 8 → get_or (xs ++ zeros 8) 1 0 ∷ get_or (xs ++ zeros 8) 2 0
    ∷ get_or (xs ++ zeros 8) 3 0 ∷ get_or (xs ++ zeros 8) 4 0 ∷ get_or (xs ++ zeros 8) 5 0 ∷ get_or (xs ++ zeros 8) 6 0
    ∷ get_or (xs ++ zeros 8) 7 0 ∷ get_or (xs ++ zeros 8) 8 0 ∷ [] ≡ drop 1 xs ++ 0 ∷ []
lanes_down xs long = rw (eight_lanes xs long) refl
