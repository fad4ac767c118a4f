-- Ends of operations, lane by lane.
use Rattle.std.specs.Prelude.{ℕ, zero, suc, ◌≡◌, ◌+◌, ◌<◌, ◌≤◌, List, [], slice_index, map, max, take, drop}
use Rattle.std.specs.List.{slice_index_or}
use Rattle.pfs_batch.specs.Private.Lanes.{capped}
use Rattle.pfs_batch.specs.declared.lanes.Lanes.{Lanes}

-- the values of the lanes of each vector
abbrev pub values_of : List Lanes → List (List ℕ)
values_of vectors = map (λ v. v.values) vectors

-- the value of a machine in a lane
abbrev pub cell : List (List ℕ) → ℕ → ℕ → ℕ
cell row machine lane = slice_index_or (slice_index_or row machine []) lane 0

-- the value of the machine before, and 0 for the first machine
abbrev pub cell_before : List (List ℕ) → ℕ → ℕ → ℕ
cell_before row zero lane = 0
cell_before row (suc machine) lane = cell row machine lane

-- each operation of the new row begins when those above and before it have ended, up to 65,535
abbrev pub IsNextRow : ℕ → List (List ℕ) → (ℕ → ℕ → ℕ) → List (List ℕ) → Type 0
IsNextRow machines old time new =
    (machine lane : ℕ) → machine < machines → lane < 8
    → cell new machine lane ≡ capped (max (cell old machine lane) (cell_before new machine lane) + time machine lane)

-- the time on a machine of the job of a lane, whose times begin at `starts`
abbrev pub time_at : List ℕ → List ℕ → ℕ → ℕ → ℕ
time_at rows starts machine lane = slice_index rows (slice_index starts lane + machine)

-- nothing has ended
abbrev pub IsZeros : ℕ → List (List ℕ) → Type 0
IsZeros machines row = (machine lane : ℕ) → machine < machines → lane < 8 → cell row machine lane ≡ 0

-- the sequence of `len` jobs that begins at a place of a list
abbrev pub sequence_from : List ℕ → ℕ → ℕ → List ℕ
sequence_from sequences len first = take len (drop first sequences)

-- the numbers from a place on are 0
abbrev pub IsZeroFrom : ℕ → List ℕ → Type 0
IsZeroFrom from numbers = (at : ℕ) → from ≤ at → slice_index numbers at ≡ 0
