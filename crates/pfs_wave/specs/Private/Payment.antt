-- What the passes of an insertion are given, and what they are paid for.
use Rattle.std.specs.Prelude.{ℕ, ◌≡◌, ◌+◌, ◌*◌, ◌<◌, ◌≤◌, List, length}
use Rattle.std.specs.List.{slice_index_or}
use Rattle.pfs_base.specs.FlowShop.{FlowShop, time_of}
use Rattle.pfs_insert.specs.Insertion.{makespan_with}
use Rattle.pfs_wave.specs.Private.Lanes.{Holding}
use Rattle.pfs_wave.specs.Private.Blocks.{AreTimes, Cells, IsRow, vectors_of}
use Rattle.pfs_wave.specs.Private.Least.{IsLeastHeld}
use Rattle.pfs_wave.specs.Private.Padded.{on_machine, padded_time}

-- the values from this number on are 0
abbrev pub IsNoneFrom : ℕ → (ℕ → ℕ) → Type 0
IsNoneFrom count value = (at : ℕ) → count ≤ at → value at ≡ 0

-- all times are those of as many rows and machines
pub record AreTimesOf (rows machines : ℕ) (time : Cells) : Type 0 where
  pub machines_are : (row : ℕ) → IsNoneFrom machines (time row)
  pub rows_are : (machine : ℕ) → IsNoneFrom rows (λ row. time row machine)

-- the permits are for the tails of each row, and for the heads of each row and the inserted row and the sum of each
-- place
pub record IsPaid (tails sums rows machines : ℕ) : Type 0 where
  pub tails_are : tails ≡ rows * machines
  pub sums_are : sums ≡ (3 * rows + 2) * machines

-- the passes insert a job into a sequence of a shop: they have as many steps more than rows as lanes have machines, the
-- permits, the times of the sequence, and those of the job
pub record IsInsertion (Holds : Holding) (shop : FlowShop) (jobs : List ℕ) (job count lanes steps tails sums : ℕ)
    (times row : List (List ℕ)) : Type 0 where
  pub some : 1 ≤ shop.machines
  pub few : shop.machines ≤ lanes * count
  pub all : length jobs + lanes ≡ steps
  pub paid : IsPaid tails sums (length jobs) shop.machines
  pub times_are : AreTimes Holds count steps (padded_time shop jobs) times
  pub job_is : IsRow count (on_machine shop (time_of shop job)) (vectors_of row)

-- what the passes return: the first place of the least sum with that sum, and the first sums; sums hold the makespans
pub record IsFound (Holds : Holding) (shop : FlowShop) (jobs : List ℕ) (job place least count : ℕ) (sums : List ℕ) :
    Type 0 where
  pub best : IsLeastHeld Holds (makespan_with shop jobs job) (length jobs + 1) place least
  pub sums_hold : (at : ℕ) → at < count → Holds (slice_index_or sums at 0) (makespan_with shop jobs job at)
