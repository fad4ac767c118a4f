-- A lower bound of the makespan of every order. Jobs and machines count from 0.
use Rattle.std.specs.Prelude.{◌≡◌, ℕ, ◌+◌, ◌-◌, ◌≤◌, max, min, List, [], ◌∷◌, length, map, fold, sum_by}
use Rattle.std.specs.List.{range_with_len}
use Rattle.pfs_base.specs.FlowShop.{FlowShop, time_of, total_of}
use Rattle.pfs_base.specs.Paths.{greatest, makespan}
use Rattle.pfs_order.specs.Sequence.{IsSequence, all_jobs}

-- the least number of a list, and 0 for an empty list
abbrev pub least : List ℕ → ℕ
least [] = 0
least (x ∷ xs) = fold min x xs

-- the sum of a job's times on `many` machines, beginning with `from`
abbrev pub time_on : FlowShop → ℕ → ℕ → ℕ → ℕ
time_on shop from many job = sum_by (time_of shop job) (range_with_len from many)

-- the least time that a job takes on `many` machines, beginning with `from`
abbrev pub least_on : FlowShop → ℕ → ℕ → ℕ
least_on shop from many = least (map (time_on shop from many) (all_jobs shop.jobs))

-- the sum of the times of all jobs on a machine
abbrev pub load_of : FlowShop → ℕ → ℕ
load_of shop machine = sum_by (λ job. time_of shop job machine) (all_jobs shop.jobs)

-- the least time of a job before a machine, the machine's load, and the least time of a job after it, added up
abbrev pub machine_bound : FlowShop → ℕ → ℕ
machine_bound shop machine =
    least_on shop 0 machine + load_of shop machine + least_on shop (machine + 1) (shop.machines - (machine + 1))

-- the greatest total time of a job
abbrev pub greatest_total : FlowShop → ℕ
greatest_total shop = greatest (map (total_of shop) (all_jobs shop.jobs))

-- the greatest of the machines' bounds
abbrev pub greatest_machine_bound : FlowShop → ℕ
greatest_machine_bound shop = greatest (map (machine_bound shop) (range_with_len 0 shop.machines))

-- the bound of Taillard (1993)
abbrev pub bound_of : FlowShop → ℕ
bound_of shop = max (greatest_total shop) (greatest_machine_bound shop)

-- no order of all jobs has a makespan below this number
abbrev pub IsLowerBound : FlowShop → ℕ → Type 0
IsLowerBound shop number =
    (order : List ℕ) → IsSequence shop.jobs order → length order ≡ shop.jobs → number ≤ makespan shop order

-- the bound is a lower bound
abbrev pub BoundLaw : Type 0
BoundLaw = (shop : FlowShop) → IsLowerBound shop (bound_of shop)
