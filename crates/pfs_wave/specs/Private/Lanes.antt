-- Numbers of lanes, and the values that they hold.
use Rattle.std.specs.Prelude.{ℕ, ◌≡◌, ◌+◌, ◌<◌, List, max, replicate}
use Rattle.std.specs.List.{slice_index_or}
use Rattle.pfs_wave.specs.Wavefront.{capped}

abbrev pub capped_add : ℕ → ℕ → ℕ → ℕ
capped_add cap a b = capped cap (a + b)

-- that a number of a lane holds a value
abbrev pub Holding : Type 1
Holding = ℕ → ℕ → Type 0

-- the number is the value if that is below the limit
abbrev pub HoldsBelow : ℕ → Holding
HoldsBelow limit number value = value < limit → number ≡ value

-- an operation of lanes: each result holds that of the values which both lanes hold
abbrev pub IsEach : Holding → (ℕ → ℕ → ℕ) → List ℕ → List ℕ → List ℕ → Type 0
IsEach Holds operation one other result =
    (lane a b : ℕ) → lane < 8 → Holds (slice_index_or one lane 0) a → Holds (slice_index_or other lane 0) b
    → Holds (slice_index_or result lane 0) (operation a b)

-- the lanes of the next value of a table: the greater of the values beside and above it, plus a time
abbrev pub IsNext : Holding → List ℕ → List ℕ → List ℕ → List ℕ → Type 0
IsNext Holds beside above time next =
    (lane a b t : ℕ) → lane < 8 → Holds (slice_index_or beside lane 0) a → Holds (slice_index_or above lane 0) b
    → Holds (slice_index_or time lane 0) t → Holds (slice_index_or next lane 0) (max a b + t)

-- the same for the value after that, from the value above that and another time
abbrev pub IsSecond : Holding → List ℕ → List ℕ → List ℕ → List ℕ → List ℕ → List ℕ → Type 0
IsSecond Holds beside above time next_above next_time second =
    (lane a b t c u : ℕ) → lane < 8 → Holds (slice_index_or beside lane 0) a → Holds (slice_index_or above lane 0) b
    → Holds (slice_index_or time lane 0) t → Holds (slice_index_or next_above lane 0) c
    → Holds (slice_index_or next_time lane 0) u → Holds (slice_index_or second lane 0) (max (max a b + t) c + u)

-- the lanes of each step, by the number of the step
abbrev pub Rows : Type 0
Rows = ℕ → List ℕ

abbrev pub zeros : ℕ → List ℕ
zeros width = replicate width 0
