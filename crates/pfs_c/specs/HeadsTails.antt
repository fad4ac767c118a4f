-- The heads and tails of a sequence, and which arguments are invalid.
use Rattle.std.specs.Prelude.{◌≡◌, ℕ, ◌*◌, ◌<◌, List, [], ◌∷◌, length, Option}
use Rattle.pfs_base.specs.FlowShop.{FlowShop}
use Rattle.pfs_base.specs.Lists.{first_some}
use Rattle.pfs_insert.specs.Exchange.{heaviest_front, heaviest_back}
use Rattle.pfs_c.specs.declared.numbers.CallFault.{CallFault}
use Rattle.pfs_c.specs.Validation.{length_fault, jobs_fault}
use Rattle.pfs_c.specs.Tables.{table_entry}

-- for tables of heads and of tails of these lengths
abbrev pub heads_tails_fault : ℕ → ℕ → FlowShop → List ℕ → Option CallFault
heads_tails_fault heads tails shop sequence = first_some (length_fault heads (length sequence * shop.machines)
    ∷ length_fault tails (length sequence * shop.machines) ∷ jobs_fault shop.jobs sequence ∷ [])

-- row by row: the heaviest path from the first operation of the sequence to that of the row and the machine, which is
-- the earliest time at which this operation ends
abbrev pub AreRowHeads : FlowShop → List ℕ → List ℕ → Type 0
AreRowHeads shop jobs heads = (row machine : ℕ) → row < length jobs → machine < shop.machines
    → table_entry shop.machines heads row machine ≡ heaviest_front shop jobs row machine

-- row by row: the heaviest path from the operation of the row and the machine to the last operation of the sequence
abbrev pub AreRowTails : FlowShop → List ℕ → List ℕ → Type 0
AreRowTails shop jobs tails = (row machine : ℕ) → row < length jobs → machine < shop.machines
    → table_entry shop.machines tails row machine ≡ heaviest_back shop jobs row machine
