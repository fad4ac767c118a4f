-- The recurrences of the tables of an insertion (Taillard 1990).
use Rattle.std.specs.Prelude.{ℕ, suc, ◌≡◌, ◌+◌, ◌-◌, ◌*◌, ◌<◌, ◌≤◌, List, max}
use Rattle.std.specs.List.{slice_index_or}
use Rattle.pfs_wave.specs.Private.Lanes.{Holding}
use Rattle.pfs_wave.specs.Private.Blocks.{Cells, Vectors}

-- tails, of as many machines as `count` vectors have lanes: each from that of the next machine and that of the next row
pub record AreTails (count : ℕ) (time tail : Cells) : Type 0 where
  pub none : (row : ℕ) → tail row (8 * count) ≡ 0
  pub next : (row machine : ℕ) → machine < 8 * count
      → tail row machine ≡ max (tail row (suc machine)) (tail (suc row) machine) + time row machine

-- Tables by rows or places, and by a number of machines: heads and inserted rows have the value at the last of these
-- machines, and sums the greatest one; for no machine all are 0. A time, a tail and the time of the job are by machine.
pub record TablesOfCells : Type 0 where
  pub time : Cells
  pub tail : Cells
  pub head : Cells
  pub inserted : Cells
  pub sum : Cells
  pub job : ℕ → ℕ

-- the tables of an insertion into a sequence of as many rows
pub record AreTables (rows : ℕ) (t : TablesOfCells) : Type 0 where
  pub first_head : (machines : ℕ) → t.head 0 machines ≡ 0
  pub no_head : (place : ℕ) → t.head place 0 ≡ 0
  pub next_head : (row machine : ℕ) → row < rows → t.head (suc row) (suc machine)
      ≡ max (t.head (suc row) machine) (t.head row (suc machine)) + t.time row machine
  pub no_inserted : (place : ℕ) → t.inserted place 0 ≡ 0
  pub next_inserted : (place machine : ℕ) → place ≤ rows → t.inserted place (suc machine)
      ≡ max (t.inserted place machine) (t.head place (suc machine)) + t.job machine
  pub no_sum : (place : ℕ) → t.sum place 0 ≡ 0
  pub next_sum : (place machine : ℕ) → place ≤ rows → t.sum place (suc machine)
      ≡ max (t.sum place machine) (t.inserted place (suc machine) + t.tail place machine)

-- the vectors of heads after a number of steps, and the last vectors of inserted rows and of sums
pub record AreSummed (Holds : Holding) (count rows step : ℕ) (t : TablesOfCells) (heads : Vectors)
    (inserted sum : List ℕ) : Type 0 where
  pub heads_are : (lane k : ℕ) → lane < 8 → k < count → step ≤ rows + lane
      → Holds (slice_index_or (heads k) lane 0) (t.head (step - lane) (lane * count + suc k))
  pub inserted_is : (place lane : ℕ) → lane < 8 → place ≤ rows → place + suc lane ≡ step
      → Holds (slice_index_or inserted lane 0) (t.inserted place (suc lane * count))
  pub sum_is : (place lane : ℕ) → lane < 8 → place ≤ rows → place + suc lane ≡ step
      → Holds (slice_index_or sum lane 0) (t.sum place (suc lane * count))
