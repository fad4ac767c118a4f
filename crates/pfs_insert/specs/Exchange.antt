-- The makespan with a job inserted, from the paths that lead to the inserted row and those that continue after it. A
-- row is a place of the sequence.
use Rattle.std.specs.Prelude.{◌≡◌, ℕ, ◌+◌, ◌-◌, ◌≤◌, List, length, map, nat_lt, insert, if◌then◌else◌}
use Rattle.std.specs.List.{range_with_len}
use Rattle.pfs_base.specs.FlowShop.{FlowShop}
use Rattle.pfs_base.specs.Paths.{heaviest, greatest, operation}
use Rattle.pfs_insert.specs.Insertion.{makespan_with}

-- the head of a row and a machine: the weight of the heaviest path from the first operation to the row's operation on
-- the machine
abbrev pub heaviest_front : FlowShop → List ℕ → ℕ → ℕ → ℕ
heaviest_front shop jobs row machine = heaviest (operation shop jobs) 0 0 row machine

-- the tail of a row and a machine: the weight of the heaviest path from the row's operation on the machine to the last
-- operation; 0 after the last row
abbrev pub heaviest_back : FlowShop → List ℕ → ℕ → ℕ → ℕ
heaviest_back shop jobs row machine =
    if nat_lt row (length jobs)
    then heaviest (operation shop jobs) row machine (length jobs - 1) (shop.machines - 1)
    else 0

-- the makespan with a job inserted at a place is the greatest, over the machines, of the sum of the inserted row's head
-- on the machine and the tail of the sequence without the job there: a path leaves the inserted row at one machine
abbrev pub ExchangeLaw : Type 0
ExchangeLaw =
    (shop : FlowShop) (jobs : List ℕ) (job place : ℕ) → 1 ≤ shop.machines → place ≤ length jobs →
    makespan_with shop jobs job place
    ≡ greatest (map
    (λ machine. heaviest_front shop (insert jobs place job) place machine + heaviest_back shop jobs place machine)
    (range_with_len 0 shop.machines))
