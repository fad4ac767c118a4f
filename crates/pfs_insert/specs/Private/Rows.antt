-- Rows of heads and tails in a table, each computed from another row of the table.
use Rattle.std.specs.Prelude.{◌≡◌, ℕ, zero, suc, ◌+◌, ◌-◌, ◌*◌, ◌<◌, ◌≤◌, ◌⊎◌, Bool, true, false, max, List, length}
use Rattle.std.specs.List.{slice_index_or}
use Rattle.pfs_base.specs.declared.limits.TheConstants.{MOST_JOBS, MOST_MACHINES, LONGEST_TIME}
use Rattle.pfs_base.specs.FlowShop.{FlowShop, time_of}
use Rattle.pfs_base.specs.Heads.{head_of}
use Rattle.pfs_insert.specs.Exchange.{heaviest_back}
use Rattle.pfs_insert.specs.Inserter.{Sizes}

-- the row after a row: the value at a machine is the greater of the value above it and the value before it, plus the
-- time on the machine; before the first machine the value is 0
abbrev pub next_row : (ℕ → ℕ) → (ℕ → ℕ) → ℕ → ℕ
next_row times above zero = max (above 0) 0 + times 0
next_row times above (suc machine) = max (above (suc machine)) (next_row times above machine) + times (suc machine)

-- number `turn` of the numbers below `count`, from the first on, or (where `back` is true) from the last on
abbrev pub in_turn : Bool → ℕ → ℕ → ℕ
in_turn true count turn = count - 1 - turn
in_turn false count turn = turn

-- the times of a job, machine by machine, from the first machine on or from the last on
abbrev pub times_in_turn : FlowShop → ℕ → Bool → ℕ → ℕ
times_in_turn shop job back turn = time_of shop job (in_turn back shop.machines turn)

-- the lengths of a row are the numbers `values`, from its first length on or from its last on
abbrev pub AreValues : {X : Type 0} → (X → ℕ) → List X → ℕ → Bool → (ℕ → ℕ) → Type 0
AreValues {X} number row machines back values =
    (turn : ℕ) (d : X) → turn < machines → number (slice_index_or row (in_turn back machines turn) d) ≡ values turn

-- no length of a row is greater than a bound on the weight of any path within the limits
abbrev pub AreShort : {X : Type 0} → (X → ℕ) → List X → ℕ → Bool → Type 0
AreShort {X} number row machines back =
    (turn : ℕ) (d : X) → turn < machines
    → number (slice_index_or row (in_turn back machines turn) d) ≤ (MOST_JOBS + MOST_MACHINES) * LONGEST_TIME

-- number `place` of the lengths of a table's 2n rows for n jobs, from the first on or from the last on
abbrev pub place_of : FlowShop → Bool → ℕ → ℕ
place_of shop back place = in_turn back (2 * (shop.jobs * shop.machines)) place

-- row `row` of a table is the numbers `values`, from its first row and length on or from its last on
abbrev pub HasRow : {X : Type 0} → (X → ℕ) → FlowShop → List X → Bool → ℕ → (ℕ → ℕ) → Type 0
HasRow {X} number shop table back row values =
    (turn : ℕ) (d : X) → turn < shop.machines
    → number (slice_index_or table (place_of shop back (row * shop.machines + turn)) d) ≡ values turn

-- two tables differ at most from row `from` up to before row `to`
abbrev pub AreSameOutside : {X : Type 0} → FlowShop → List X → List X → Bool → ℕ → ℕ → Type 0
AreSameOutside {X} shop old new back from to =
    (place : ℕ) (d : X) → place < 2 * (shop.jobs * shop.machines)
    → (place < from * shop.machines) ⊎ (to * shop.machines ≤ place)
    → slice_index_or new (place_of shop back place) d ≡ slice_index_or old (place_of shop back place) d

-- the heads of the first `count` jobs, from the first machine on, or the tails of the last `count` jobs, from the last
-- machine on
abbrev pub row_value : FlowShop → List ℕ → Bool → ℕ → ℕ → ℕ
row_value shop jobs true count turn =
    heaviest_back shop jobs (length jobs - count) (in_turn true shop.machines turn)
row_value shop jobs false count turn = head_of shop jobs count turn

-- a table has the rows of heads or tails of up to `count` jobs, from its first row on or from its last on
abbrev pub AreRows : {X : Type 0} → (X → ℕ) → FlowShop → List ℕ → List X → Bool → ℕ → Type 0
AreRows number shop jobs table back count =
    (row : ℕ) → row ≤ count → HasRow number shop table back row (row_value shop jobs back row)

-- a table of 2n rows for n jobs has the rows of heads of a sequence, and its rows of tails
pub record HasRows {X : Type 0} (number : X → ℕ) (shop : FlowShop) (jobs : List ℕ) (table : List X) : Type 0 where
  pub size : length table ≡ 2 * (shop.jobs * shop.machines)
  pub rows : (back : Bool) → AreRows number shop jobs table back (length jobs)

-- a table of 2n + 1 rows for n jobs, of which the first row and the last but one are rows of zeros
pub record IsTable {X : Type 0} (number : X → ℕ) (sizes : Sizes) (table : List X) : Type 0 where
  pub size : length table ≡ (2 * sizes.jobs + 1) * sizes.machines
  pub zeros : (back : Bool) (turn : ℕ) (d : X) → turn < sizes.machines
      → number (slice_index_or table (in_turn back (2 * (sizes.jobs * sizes.machines)) turn) d) ≡ 0

-- the sizes of a shop
abbrev pub sizes_of : FlowShop → Sizes
sizes_of shop = record { jobs = shop.jobs; machines = shop.machines }
