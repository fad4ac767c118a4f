-- Where a job is inserted into a sequence, and how many cells it takes to find the place. Places count from 0.
use Rattle.std.specs.Prelude.{ℕ, ◌+◌, ◌-◌, ◌*◌, ◌<◌, ◌≤◌, List, length, nat_le, insert}
use Rattle.std.specs.List.{list_all, position_or_len, range_with_len}
use Rattle.pfs_base.specs.FlowShop.{FlowShop}
use Rattle.pfs_base.specs.Paths.{makespan}

-- the first number below `count` whose value is at most the value of each number below `count`; 0 where `count` is 0
abbrev pub first_least : (ℕ → ℕ) → ℕ → ℕ
first_least value count =
    let places = range_with_len 0 count in
    position_or_len (λ place. list_all (λ other. nat_le (value place) (value other)) places) places

-- the makespan of the sequence with a job inserted at a place
abbrev pub makespan_with : FlowShop → List ℕ → ℕ → ℕ → ℕ
makespan_with shop jobs job place = makespan shop (insert jobs place job)

-- the first of all places for a job, from before the first job to after the last, that gives the least makespan
abbrev pub best_place : FlowShop → List ℕ → ℕ → ℕ
best_place shop jobs job = first_least (makespan_with shop jobs job) (length jobs + 1)

-- the sequence with a job inserted at its best place
abbrev pub with_job : FlowShop → List ℕ → ℕ → List ℕ
with_job shop jobs job = insert jobs (best_place shop jobs job) job

-- a place below `count` whose value is at most that of each place below `count`, and less than that of each place
-- before it
pub record IsFirstLeast (value : ℕ → ℕ) (count place : ℕ) : Type 0 where
  pub within : place < count
  pub least : (other : ℕ) → other < count → value place ≤ value other
  pub first : (other : ℕ) → other < place → value place < value other

-- no place gives a shorter makespan than the best place, and no earlier place one as short
abbrev pub BestPlaceLaw : Type 0
BestPlaceLaw = (shop : FlowShop) (jobs : List ℕ) (job : ℕ)
    → IsFirstLeast (makespan_with shop jobs job) (length jobs + 1) (best_place shop jobs job)

-- the cells of one insertion that evaluates the whole order for each place, where `jobs` includes the inserted job
abbrev pub afresh_cost : ℕ → ℕ → ℕ
afresh_cost jobs machines = jobs * jobs * machines

-- the cells of one insertion by heads and tails, where `jobs` includes the inserted job
abbrev pub heads_tails_cost : ℕ → ℕ → ℕ
heads_tails_cost jobs machines = (4 * jobs - 2) * machines
