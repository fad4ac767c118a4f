-- Blocks of machines. A step of a wavefront has `count` vectors of eight lanes. Lane l of vector k has machine
-- l * count + k, so a lane has a block of `count` machines. At step x it has the cells of row x - l.
use Rattle.std.specs.Prelude.{ℕ, ◌≡◌, ◌+◌, ◌-◌, ◌*◌, ◌<◌, ◌≤◌, List, []}
use Rattle.std.specs.List.{slice_index_or}
use Rattle.pfs_base.specs.FlowShop.{FlowShop, time_of}
use Rattle.pfs_base.specs.Paths.{greatest}
use Rattle.pfs_wave.specs.Private.Lanes.{Holding}
use Rattle.pfs_wave.specs.Private.Padded.{on_machine}
use Rattle.pfs_wave.specs.declared.blocks.Width.{Width}
use Rattle.pfs_wave.specs.declared.blocks.Width.TheVariants as width

-- a value for each row and machine
abbrev pub Cells : Type 0
Cells = ℕ → ℕ → ℕ

-- the lanes of each vector of a step, by the vector's number
abbrev pub Vectors : Type 0
Vectors = ℕ → List ℕ

abbrev pub vectors_of : List (List ℕ) → Vectors
vectors_of row k = slice_index_or row k []

-- the vectors of a step in a table that has `count` vectors for each step
abbrev pub step_of : ℕ → List (List ℕ) → ℕ → Vectors
step_of count table step k = slice_index_or table (step * count + k) []

-- the lanes of vector k hold the cells of their machines, each of the row that is at the lane in this step
abbrev pub IsColumn : Holding → ℕ → ℕ → Cells → ℕ → List ℕ → Type 0
IsColumn Holds count step cell k lanes =
    (row lane : ℕ) → lane < 8 → row + lane ≡ step → Holds (slice_index_or lanes lane 0) (cell row (lane * count + k))

abbrev pub IsStep : Holding → ℕ → ℕ → Cells → Vectors → Type 0
IsStep Holds count step cell vectors = (k : ℕ) → k < count → IsColumn Holds count step cell k (vectors k)

abbrev pub HoldCells : Holding → ℕ → ℕ → Cells → List (List ℕ) → Type 0
HoldCells Holds count steps cell table =
    (step : ℕ) → step < steps → IsStep Holds count step cell (step_of count table step)

-- the lanes that the first row has not reached are 0
abbrev pub IsNoneBefore : ℕ → ℕ → Vectors → Type 0
IsNoneBefore count step vectors =
    (lane k : ℕ) → lane < 8 → k < count → step < lane → slice_index_or (vectors k) lane 0 ≡ 0

-- the table of the times of a sequence
pub record AreTimes (Holds : Holding) (count steps : ℕ) (time : Cells) (table : List (List ℕ)) : Type 0 where
  pub cells_are : HoldCells Holds count steps time table
  pub none_before : (step : ℕ) → step < steps → IsNoneBefore count step (step_of count table step)

-- some vectors have a value for each machine
abbrev pub IsRow : ℕ → (ℕ → ℕ) → Vectors → Type 0
IsRow count value vectors =
    (lane k : ℕ) → lane < 8 → k < count → slice_index_or (vectors k) lane 0 ≡ value (lane * count + k)

-- ---- the rows of a shop

-- `rows` has the times of each job in `count` vectors, and after these vectors of zeros
pub record HasRows (shop : FlowShop) (count : ℕ) (rows : List (List ℕ)) : Type 0 where
  pub jobs_are : (job : ℕ) → job < shop.jobs → IsRow count (on_machine shop (time_of shop job)) (step_of count rows job)
  pub none : IsRow count (λ machine. 0) (step_of count rows shop.jobs)

-- what insertions into sequences of a shop are computed with: the number of vectors of a step, that of the lanes that
-- have machines, that of the jobs, and the vectors of the jobs' times
pub record BlockRows : Type 0 where
  pub count : ℕ
  pub lanes : ℕ
  pub jobs : ℕ
  pub rows : List (List ℕ)

pub record HasShop (shop : FlowShop) (blocks : BlockRows) : Type 0 where
  pub jobs : blocks.jobs ≡ shop.jobs
  pub some : 1 ≤ shop.machines
  pub few : shop.machines ≤ blocks.lanes * blocks.count
  pub rows : HasRows shop blocks.count blocks.rows

-- an upper bound on the weight of each path of all n jobs on m machines: n + m - 1 operations, each of the longest time
abbrev pub longest_path : FlowShop → ℕ
longest_path shop = (shop.jobs + shop.machines - 1) * greatest shop.times

-- the same of a shop none of whose paths is too long for lanes with this greatest value
pub record FitsLanes (shop : FlowShop) (cap : ℕ) (blocks : BlockRows) : Type 0 where
  pub has : HasShop shop blocks
  pub short : longest_path shop < cap

-- the number of vectors of a width
abbrev pub vectors_in : Width → ℕ
vectors_in width.One = 1
vectors_in width.Two = 2
vectors_in width.Three = 3
vectors_in width.Five = 5
vectors_in width.Eight = 8
vectors_in width.Thirteen = 13
vectors_in width.TwentySix = 26
