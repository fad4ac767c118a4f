-- How long a makespan can be within the limits.
use Rattle.std.specs.Prelude.{ℕ, ◌+◌, ◌-◌, ◌*◌, ◌≤◌, List, length}
use Rattle.pfs_base.specs.Limits.{limits}
use Rattle.pfs_base.specs.FlowShop.{FlowShop, IsWithin}
use Rattle.pfs_base.specs.Paths.{makespan}

-- the number of operations on a path at the greatest sizes, times the longest time
abbrev pub longest_makespan : ℕ
longest_makespan = (limits.jobs + limits.machines - 1) * limits.time

-- within the limits, no sequence of at most the flow shop's number of jobs has a greater makespan
abbrev pub NoneLonger : Type 0
NoneLonger = (shop : FlowShop) (jobs : List ℕ) → IsWithin limits shop → length jobs ≤ shop.jobs
    → makespan shop jobs ≤ longest_makespan
