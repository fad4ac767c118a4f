-- Tables that are stored in lists, row by row.
use Rattle.std.specs.Prelude.{◌≡◌, ℕ, ◌+◌, ◌*◌, ◌<◌, List, [], ◌∷◌, length, slice_index, Option}
use Rattle.pfs_base.specs.FlowShop.{FlowShop}
use Rattle.pfs_base.specs.Lists.{first_some}
use Rattle.pfs_audit.specs.Schedule.{Starts, end_of}
use Rattle.pfs_c.specs.declared.numbers.CallFault.{CallFault}
use Rattle.pfs_c.specs.Validation.{length_fault, jobs_fault}

-- the entry for a row and a machine
abbrev pub table_entry : ℕ → List ℕ → Starts
table_entry machines list row machine = slice_index list (row * machines + machine)

-- the end of each operation of an order is its start plus its processing time
abbrev pub EndAfterTimes : FlowShop → List ℕ → List ℕ → List ℕ → Type 0
EndAfterTimes shop order starts ends = (row machine : ℕ) → row < length order → machine < shop.machines
    → table_entry shop.machines ends row machine ≡ end_of shop order (table_entry shop.machines starts) row machine

-- `starts` and `ends` are the lengths of the lists for the table
abbrev pub table_fault : FlowShop → List ℕ → ℕ → ℕ → Option CallFault
table_fault shop order starts ends = first_some (length_fault (length order) shop.jobs
    ∷ length_fault starts (shop.jobs * shop.machines) ∷ length_fault ends (shop.jobs * shop.machines)
    ∷ jobs_fault shop.jobs order ∷ [])
