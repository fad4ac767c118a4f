-- Paths through the operations of a sequence of jobs, and the makespan, which is the weight of the heaviest path.
use Rattle.std.specs.Prelude.{◌≡◌, ℕ, zero, suc, ◌+◌, ◌-◌, ◌<◌, ◌≤◌, max}
use Rattle.std.specs.Prelude.{List, [], ◌∷◌, ◌++◌, length, map, fold, sum_by, slice_index}
use Rattle.pfs_base.specs.FlowShop.{FlowShop, time_of}

-- a row, which is a place of the sequence, and a machine
abbrev pub Cell : Type 0
Cell = ℕ × ℕ

-- a path from the first cell to the last, each step one row down or one machine further
pub data Path : ℕ → ℕ → ℕ → ℕ → List Cell → Type 0 where
  here : {row machine : ℕ} → Path row machine row machine ((row, machine) ∷ [])
  down : {row machine last_row last_machine : ℕ} {path : List Cell} →
      Path (suc row) machine last_row last_machine path → Path row machine last_row last_machine ((row, machine) ∷ path)
  on : {row machine last_row last_machine : ℕ} {path : List Cell} →
      Path row (suc machine) last_row last_machine path → Path row machine last_row last_machine ((row, machine) ∷ path)

-- the sum of the weights of a path's cells, where `weigh` gives the weight of a cell
abbrev pub weight : (ℕ → ℕ → ℕ) → List Cell → ℕ
weight weigh path = sum_by (λ (cell : Cell). weigh cell.0 cell.1) path

-- every path from a cell that goes `downs` rows down and `ons` machines further
abbrev pub paths : ℕ → ℕ → ℕ → ℕ → List (List Cell)
paths zero zero row machine = ((row, machine) ∷ []) ∷ []
paths zero (suc ons) row machine = map (λ path. (row, machine) ∷ path) (paths zero ons row (suc machine))
paths (suc downs) zero row machine = map (λ path. (row, machine) ∷ path) (paths downs zero (suc row) machine)
paths (suc downs) (suc ons) row machine =
    map (λ path. (row, machine) ∷ path)
    (paths downs (suc ons) (suc row) machine ++ paths (suc downs) ons row (suc machine))

-- the greatest number of a list, and 0 for an empty list
abbrev pub greatest : List ℕ → ℕ
greatest numbers = fold max 0 numbers

-- the weight of the heaviest path from one cell to another
abbrev pub heaviest : (ℕ → ℕ → ℕ) → ℕ → ℕ → ℕ → ℕ → ℕ
heaviest weigh row machine last_row last_machine =
    greatest (map (weight weigh) (paths (last_row - row) (last_machine - machine) row machine))

-- the time of the job at a row of the sequence, on a machine
abbrev pub operation : FlowShop → List ℕ → ℕ → ℕ → ℕ
operation shop order row machine = time_of shop (slice_index order row) machine

-- the makespan: the weight of the heaviest path from the first operation to the last, and 0 for no jobs
abbrev pub makespan : FlowShop → List ℕ → ℕ
makespan shop [] = 0
makespan shop (job ∷ jobs) = heaviest (operation shop (job ∷ jobs)) 0 0 (length jobs) (shop.machines - 1)

-- some path between two cells weighs `most`, and none weighs more
pub record IsHeaviest (weigh : ℕ → ℕ → ℕ) (row machine last_row last_machine : ℕ) (most : ℕ) : Type 0 where
  pub some_path : (path : List Cell) × Path row machine last_row last_machine path × (weight weigh path ≡ most)
  pub no_heavier : (path : List Cell) → Path row machine last_row last_machine path → weight weigh path ≤ most

-- if the last cell is neither above nor before the first, some path between them weighs what `heaviest` says,
-- and none weighs more
abbrev pub HeaviestLaw : Type 0
HeaviestLaw = (weigh : ℕ → ℕ → ℕ) (row machine last_row last_machine : ℕ) → row ≤ last_row → machine ≤ last_machine
    → IsHeaviest weigh row machine last_row last_machine (heaviest weigh row machine last_row last_machine)

-- the weight of a path from the first operation to the last that no such path exceeds, and 0 for no jobs
abbrev pub IsMakespan : FlowShop → List ℕ → ℕ → Type 0
IsMakespan shop [] most = most ≡ 0
IsMakespan shop (job ∷ jobs) most = IsHeaviest (operation shop (job ∷ jobs)) 0 0 (length jobs) (shop.machines - 1) most

-- `makespan` is this weight
abbrev pub MakespanLaw : Type 0
MakespanLaw = (shop : FlowShop) (jobs : List ℕ) → IsMakespan shop jobs (makespan shop jobs)

-- only one number is this weight
abbrev pub OneMakespan : Type 0
OneMakespan = (shop : FlowShop) (jobs : List ℕ) (one other : ℕ)
    → IsMakespan shop jobs one → IsMakespan shop jobs other → one ≡ other

-- the usual recurrence of when operations end, with rows and machines counted from 1, and 0 in row 0 and at machine 0
pub record AreEnds (shop : FlowShop) (jobs : List ℕ) (ends : ℕ → ℕ → ℕ) : Type 0 where
  pub no_row : (machine : ℕ) → ends 0 machine ≡ 0
  pub no_machine : (row : ℕ) → ends row 0 ≡ 0
  pub step : (row machine : ℕ) → row < length jobs → machine < shop.machines
      → ends (row + 1) (machine + 1)
      ≡ max (ends row (machine + 1)) (ends (row + 1) machine) + operation shop jobs row machine

-- the last end of the usual recurrence is the makespan
abbrev pub RecurrenceLaw : Type 0
RecurrenceLaw = (shop : FlowShop) (jobs : List ℕ) (ends : ℕ → ℕ → ℕ) → 1 ≤ shop.machines → AreEnds shop jobs ends
    → ends (length jobs) shop.machines ≡ makespan shop jobs
