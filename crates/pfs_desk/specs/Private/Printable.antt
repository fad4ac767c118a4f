-- Time tables whose lines are short.
use Rattle.std.specs.Prelude.{ℕ, ◌<◌, ◌≤◌, length, slice_index}
use Rattle.pfs_base.specs.declared.limits.TheConstants.{MOST_JOBS, MOST_MACHINES}
use Rattle.pfs_audit.specs.Schedule.{Timing}

-- the rows, the machines and the jobs' numbers are within the limits of an instance
pub record IsPrintable (timing : Timing) : Type 0 where
  pub few_rows : length timing.jobs ≤ MOST_JOBS
  pub few_machines : timing.machines ≤ MOST_MACHINES
  pub in_range : (row : ℕ) → row < length timing.jobs → slice_index timing.jobs row < MOST_JOBS
