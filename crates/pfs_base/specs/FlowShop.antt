-- What a flow shop is: the numbers of jobs and machines, and the time of each job on each machine.
use Rattle.std.specs.Prelude.{◌≡◌, ℕ, ◌+◌, ◌*◌, ◌≤◌, List, length, slice_index, slice_set, sum, take, drop}
use Rattle.std.specs.List.{All}
use Rattle.pfs_base.specs.Limits.{Limits}

-- jobs and machines count from 0; `times` has the times of job 0 on each machine, then those of job 1, and so on
pub record FlowShop : Type 0 where
  pub jobs : ℕ
  pub machines : ℕ
  pub times : List ℕ

-- the time of a job on a machine
abbrev pub time_of : FlowShop → ℕ → ℕ → ℕ
time_of shop job machine = slice_index shop.times (job * shop.machines + machine)

-- the flow shop with another time of a job on a machine
abbrev pub with_time : FlowShop → ℕ → ℕ → ℕ → FlowShop
with_time shop job machine time = record shop { times = slice_set shop.times (job * shop.machines + machine) time }

-- the numbers of jobs and machines that are accepted: each is at least 1 and within its limit
pub record AreSizes (limits : Limits) (jobs machines : ℕ) : Type 0 where
  pub some_job : 1 ≤ jobs
  pub few_jobs : jobs ≤ limits.jobs
  pub some_machine : 1 ≤ machines
  pub few_machines : machines ≤ limits.machines

-- sizes and times are within the limits, and there is one time for each job and machine
pub record IsWithin (limits : Limits) (shop : FlowShop) : Type 0 where
  pub sizes : AreSizes limits shop.jobs shop.machines
  pub every_time : length shop.times ≡ shop.jobs * shop.machines
  pub short_times : All (λ time. time ≤ limits.time) shop.times

-- the sum of a job's times
abbrev pub total_of : FlowShop → ℕ → ℕ
total_of shop job = sum (take shop.machines (drop (job * shop.machines) shop.times))
