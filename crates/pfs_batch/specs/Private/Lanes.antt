-- Numbers of lanes, whose sums stop at 65,535, and eight vectors of eight lanes.
use Rattle.std.specs.Prelude.{ℕ, ◌+◌, List, [], ◌∷◌, min}
use Rattle.std.specs.List.{slice_index_or}

-- a length, or 65,535 where it is longer
abbrev pub capped : ℕ → ℕ
capped length = min length 65535

abbrev pub capped_sum : ℕ → ℕ → ℕ
capped_sum a b = capped (a + b)

-- eight lists, of which list k has number k of each of these
abbrev pub column : List ℕ → List ℕ → List ℕ → List ℕ → List ℕ → List ℕ → List ℕ → List ℕ → ℕ → List ℕ
column a b c d e f g h k =
    slice_index_or a k 0 ∷ slice_index_or b k 0 ∷ slice_index_or c k 0 ∷ slice_index_or d k 0 ∷ slice_index_or e k 0
    ∷ slice_index_or f k 0 ∷ slice_index_or g k 0 ∷ slice_index_or h k 0 ∷ []

abbrev pub columns : List ℕ → List ℕ → List ℕ → List ℕ → List ℕ → List ℕ → List ℕ → List ℕ → List (List ℕ)
columns a b c d e f g h =
    column a b c d e f g h 0 ∷ column a b c d e f g h 1 ∷ column a b c d e f g h 2 ∷ column a b c d e f g h 3
    ∷ column a b c d e f g h 4 ∷ column a b c d e f g h 5 ∷ column a b c d e f g h 6 ∷ column a b c d e f g h 7 ∷ []
