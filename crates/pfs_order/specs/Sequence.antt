-- Sequences of distinct jobs. Jobs count from 0.
use Rattle.std.specs.Prelude.{ℕ, ◌<◌, ◌≤◌, List, Option, IfSome, nat_eq}
use Rattle.std.specs.List.{All, IsDistinct, range_with_len}
use Rattle.pfs_base.specs.Limits.{Limits}
use Rattle.pfs_base.specs.declared.limits.TheConstants.{MOST_MACHINES}

-- the number of all jobs, and those of them that are in the sequence, in order
pub record Sequence : Type 0 where
  pub size : ℕ
  pub jobs : List ℕ

-- what an order file states: an order of all jobs, a number of machines or none, and a makespan
pub record StatedOrder : Type 0 where
  pub order : List ℕ
  pub machines : Option ℕ
  pub makespan : ℕ

-- if a number of machines is stated, it is at least 1 and within the limit
abbrev pub AreMachines : Option ℕ → Type 0
AreMachines machines = IfSome machines (λ m. (1 ≤ m) × (m ≤ MOST_MACHINES))

-- distinct jobs below the size
pub record IsSequence (size : ℕ) (jobs : List ℕ) : Type 0 where
  pub in_range : All (λ job. job < size) jobs
  pub distinct : IsDistinct nat_eq jobs

-- the number of jobs is accepted: it is at least 1 and within the limit
pub record IsSize (limits : Limits) (size : ℕ) : Type 0 where
  pub some : 1 ≤ size
  pub few : size ≤ limits.jobs

-- all jobs in the order of their numbers
abbrev pub all_jobs : ℕ → List ℕ
all_jobs size = range_with_len 0 size
