-- The skewed times of a sequence, kept from one sequence to the next.
use Rattle.std.specs.Prelude.{ℕ, ◌≡◌, ◌+◌, ◌-◌, ◌*◌, ◌<◌, ◌≤◌, List, length, map}
use Rattle.std.specs.List.{slice_index_or, between}
use Rattle.pfs_wave.specs.Private.Lanes.{Rows}
use Rattle.pfs_wave.specs.Private.Blocks.{step_of}
use Rattle.pfs_wave.specs.Private.Padded.{lane_of}
use Rattle.pfs_wave.specs.declared.hold.Held.{Held}

-- the jobs of a sequence, and `none` in each row after them
abbrev pub IsPadded : List ℕ → List ℕ → ℕ → Type 0
IsPadded order jobs none = (row : ℕ) → row < length order → slice_index_or order row 0 ≡ slice_index_or jobs row none

-- the first `front` rows and the last `back` rows of the sequence `seq` are those of the sequence before, `held`;
-- `back` is 0 where `held` is longer than `seq`
pub record IsKept (held seq : List ℕ) (front back : ℕ) : Type 0 where
  pub in_held : front + back ≤ length held
  pub in_seq : front + back ≤ length seq
  pub same_front : (row : ℕ) → row < front → slice_index_or held row 0 ≡ slice_index_or seq row 0
  pub same_back : (row : ℕ) → row < length seq → length seq ≤ row + back
      → slice_index_or held (row - (length seq - length held)) 0 ≡ slice_index_or seq row 0
  pub no_longer : length seq < length held → back ≡ 0

-- vector k of each row of a sequence; `rows` has the vectors of each job
abbrev pub rows_at : ℕ → List (List ℕ) → List ℕ → ℕ → Rows
rows_at count rows order k row = step_of count rows (slice_index_or order row 0) k

-- vector k of each step
abbrev pub column : ℕ → List (List ℕ) → ℕ → Rows
column count table k step = step_of count table step k

-- the vectors of the steps from `start` on
abbrev pub part_from : {X : Type 0} → ℕ → ℕ → ℕ → List X → List X
part_from start steps count table = between (start * count) ((start + steps) * count) table

-- the lanes contain the rows, skewed
pub record HoldLanes (rows : Rows) (steps : ℕ) (times : Rows) : Type 0 where
  pub times_are : (row lane : ℕ) → lane < 8 → row + lane < steps
      → lane_of times (row + lane) lane ≡ lane_of rows row lane
  pub none_before : (step lane : ℕ) → step < lane → lane < 8 → step < steps → lane_of times step lane ≡ 0

-- the lanes contain the rows before `first`, those from `last` on, and all at the steps from `end` on, skewed
pub record HoldOutside (rows : Rows) (first last end steps : ℕ) (times : Rows) : Type 0 where
  pub front : (row lane : ℕ) → row < first → lane < 8 → row + lane < steps
      → lane_of times (row + lane) lane ≡ lane_of rows row lane
  pub back : (row lane : ℕ) → last ≤ row → lane < 8 → row + lane < steps
      → lane_of times (row + lane) lane ≡ lane_of rows row lane
  pub later : (row lane : ℕ) → end ≤ row + lane → lane < 8 → row + lane < steps
      → lane_of times (row + lane) lane ≡ lane_of rows row lane
  pub none_before : (step lane : ℕ) → step < lane → lane < 8 → step < steps → lane_of times step lane ≡ 0

-- `order` is a sequence of `len` of the jobs, followed by the number of the row after those of all jobs; `times` are the
-- skewed times of all its rows
pub record IsHolding (count jobs : ℕ) (rows : List (List ℕ)) (len : ℕ) (order : List ℕ) (times : List (List ℕ)) :
    Type 0 where
  pub some : len ≤ jobs
  pub steps : length order ≡ jobs + 8
  pub jobs_in : (row : ℕ) → row < len → slice_index_or order row 0 < jobs
  pub rest : (row : ℕ) → len ≤ row → row < length order → slice_index_or order row 0 ≡ jobs
  pub all_times : length times ≡ length order * count
  pub lanes : (k : ℕ) → k < count → HoldLanes (rows_at count rows order k) (length order) (column count times k)

-- a sequence is held, in a table with room for its times to begin earlier or later
pub record IsHeld {T : Type 0} (lanes : T → List ℕ) (count : ℕ) (rows : List (List ℕ)) (held : Held T) : Type 0 where
  pub start : held.start ≤ held.jobs
  pub room : length held.times.items ≡ (2 * held.jobs + 8) * count
  pub holds : IsHolding count held.jobs rows held.len held.order.items
      (map lanes (part_from held.start (held.jobs + 8) count held.times.items))
