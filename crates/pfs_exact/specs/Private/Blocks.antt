-- Vectors of eight lanes: the times of eight jobs, and what a node keeps of each machine in all lanes.
use Rattle.std.specs.Prelude.{◌≡◌, ℕ, Bool, true, false, ◌+◌, ◌*◌, ◌<◌, ◌≤◌, List, [], length, map}
use Rattle.std.specs.Prelude.{slice_index, slice_index_or}
use Rattle.pfs_base.specs.FlowShop.{FlowShop, time_of}
use Rattle.pfs_exact.specs.declared.lanes.Lanes.{Lanes}
use Rattle.pfs_exact.specs.declared.table.Table.{Table}

-- the values of the lanes of each vector
abbrev pub values_of : List Lanes → List (List ℕ)
values_of vectors = map (λ v. v.values) vectors

-- the number that a vector has in a lane
abbrev pub cell : List Lanes → ℕ → ℕ → ℕ
cell vectors at lane = slice_index_or (slice_index_or (values_of vectors) at []) lane 0

-- the times of the jobs in blocks of eight, with room for 64 machines each
abbrev pub HasTimes : FlowShop → ℕ → List Lanes → Type 0
HasTimes shop blocks times = (block machine lane : ℕ) → block < blocks → machine < shop.machines → lane < 8
    → 8 * block + lane < shop.jobs → cell times (64 * block + machine) lane ≡ time_of shop (8 * block + lane) machine

-- the jobs that are not shut have the marks
pub record AreShut (jobs : ℕ) (marks : List Bool) (shut : List ℕ) : Type 0 where
  pub unmarked : (job : ℕ) → job < jobs → slice_index_or marks job false ≡ true → slice_index shut job ≡ 0
  pub only : (job : ℕ) → job < jobs → slice_index shut job ≡ 0 → slice_index_or marks job false ≡ true

-- each lane of a machine's vector has at most this number
abbrev pub IsAtMost : ℕ → (ℕ → ℕ) → List Lanes → Type 0
IsAtMost machines most vectors =
    (machine lane : ℕ) → machine < machines → lane < 8 → cell vectors machine lane ≤ most machine

-- each lane of a machine's vector has such a number
abbrev pub EachLane : (ℕ → ℕ → Type 0) → ℕ → List Lanes → Type 0
EachLane Is machines vectors =
    (machine lane : ℕ) → machine < machines → lane < 8 → Is machine (cell vectors machine lane)

-- the times of all jobs, if there are blocks, and the room
pub record IsTable (shop : FlowShop) (table : Table) : Type 0 where
  pub all : 1 ≤ table.blocks → shop.jobs ≤ 8 * table.blocks
  pub few : table.blocks ≤ 64
  pub long : 64 * table.blocks ≤ length table.times.items
  pub times : HasTimes shop table.blocks table.times.items
  pub starts : shop.machines ≤ length table.starts.items
  pub rests : shop.machines ≤ length table.rests.items
  pub least : shop.machines ≤ length table.least.items
  pub ahead : shop.machines ≤ length table.ahead.items
  pub behind : shop.machines ≤ length table.behind.items
  pub shut : 8 * table.blocks ≤ length table.shut.items
  pub bounds : 8 * table.blocks ≤ length table.bounds.items
  pub others : 8 * table.blocks ≤ length table.others.items
