-- Schedules of an order: when each operation starts. Rows and machines count from 0.
use Rattle.std.specs.Prelude.{◌≡◌, ℕ, ◌+◌, ◌-◌, ◌*◌, ◌<◌, ◌≤◌, List, length, slice_index}
use Rattle.pfs_base.specs.FlowShop.{FlowShop}
use Rattle.pfs_base.specs.Paths.{heaviest, operation, makespan}

-- when the operation at a row and a machine starts
abbrev pub Starts : Type 0
Starts = ℕ → ℕ → ℕ

-- when an operation ends
abbrev pub end_of : FlowShop → List ℕ → Starts → ℕ → ℕ → ℕ
end_of shop order starts row machine = starts row machine + operation shop order row machine

-- a job is on one machine at a time, and a machine does one job at a time
pub record IsFeasible (shop : FlowShop) (order : List ℕ) (starts : Starts) : Type 0 where
  pub one_machine : (row machine : ℕ) → row < length order → machine + 1 < shop.machines
      → end_of shop order starts row machine ≤ starts row (machine + 1)
  pub one_job : (row machine : ℕ) → row + 1 < length order → machine < shop.machines
      → end_of shop order starts row machine ≤ starts (row + 1) machine

-- a feasible schedule such that no feasible schedule starts an operation earlier
pub record IsLeastSchedule (shop : FlowShop) (order : List ℕ) (starts : Starts) : Type 0 where
  pub feasible : IsFeasible shop order starts
  pub least : (others : Starts) → IsFeasible shop order others
      → (row machine : ℕ) → row < length order → machine < shop.machines → starts row machine ≤ others row machine

-- every operation has ended by this time
abbrev pub EndsBy : FlowShop → List ℕ → Starts → ℕ → Type 0
EndsBy shop order starts time =
    (row machine : ℕ) → row < length order → machine < shop.machines → end_of shop order starts row machine ≤ time

-- no feasible schedule has ended before this time
abbrev pub NoneEndsBefore : FlowShop → List ℕ → ℕ → Type 0
NoneEndsBefore shop order time =
    (starts : Starts) (by : ℕ) → IsFeasible shop order starts → EndsBy shop order starts by → time ≤ by

-- when an operation ends in the least schedule: the weight of the heaviest path to it
abbrev pub least_end : FlowShop → List ℕ → ℕ → ℕ → ℕ
least_end shop order row machine = heaviest (operation shop order) 0 0 row machine

-- when it starts: the same without the operation's own time
abbrev pub least_start : FlowShop → List ℕ → ℕ → ℕ → ℕ
least_start shop order row machine = least_end shop order row machine - operation shop order row machine

-- these starts are the least schedule, and it ends by the makespan
abbrev pub LeastScheduleLaw : Type 0
LeastScheduleLaw = (shop : FlowShop) (order : List ℕ)
    → IsLeastSchedule shop order (least_start shop order)
    × EndsBy shop order (least_start shop order) (makespan shop order)

-- two least schedules start each operation at the same time
abbrev pub OneLeastSchedule : Type 0
OneLeastSchedule = (shop : FlowShop) (order : List ℕ) (one other : Starts)
    → IsLeastSchedule shop order one → IsLeastSchedule shop order other
    → (row machine : ℕ) → row < length order → machine < shop.machines → one row machine ≡ other row machine

-- no feasible schedule ends before the makespan
abbrev pub NoneEndsEarlier : Type 0
NoneEndsEarlier =
    (shop : FlowShop) (order : List ℕ) → 1 ≤ shop.machines → NoneEndsBefore shop order (makespan shop order)

-- a time table: the jobs in their order, and when each operation starts and ends, row by row
pub record Timing : Type 0 where
  pub jobs : List ℕ
  pub machines : ℕ
  pub starts : List ℕ
  pub ends : List ℕ

-- when the operation at a row and a machine starts by a time table
abbrev pub start_in : Timing → Starts
start_in timing row machine = slice_index timing.starts (row * timing.machines + machine)

-- when the operation at a row and a machine ends by a time table
abbrev pub end_in : Timing → ℕ → ℕ → ℕ
end_in timing row machine = slice_index timing.ends (row * timing.machines + machine)

-- each operation ends its own time after its start
abbrev pub EndsInTime : FlowShop → List ℕ → Timing → Type 0
EndsInTime shop order timing = (row machine : ℕ) → row < length order → machine < shop.machines
    → end_in timing row machine ≡ end_of shop order (start_in timing) row machine

-- the end of the last job on the last machine
abbrev pub last_end : Timing → ℕ
last_end timing = end_in timing (length timing.jobs - 1) (timing.machines - 1)

-- a time table has at least one operation, and a start and an end of each
pub record IsWhole (timing : Timing) : Type 0 where
  pub some_row : 1 ≤ length timing.jobs
  pub some_machine : 1 ≤ timing.machines
  pub every_start : length timing.starts ≡ length timing.jobs * timing.machines
  pub every_end : length timing.ends ≡ length timing.jobs * timing.machines
