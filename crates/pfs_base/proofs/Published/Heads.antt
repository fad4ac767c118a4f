-- The recurrence of heads: the weight of the heaviest path to each operation, by those above it and before it.
use Rattle.std.proofs.Common.{◌≡◌, ℕ, zero, suc, ◌+◌, ◌-◌, ◌*◌, ◌<◌, ◌≤◌, max, List, [], ◌∷◌, length, refl, sym, ap}
use Rattle.std.proofs.Common.{◌∙◌, get_or, add-one, subst, arith}
use Rattle.std.proofs.Common.{⊎_elim}
use Rattle.std.proofs.Math.Nat.{mul-le-mul_right}
use Rattle.std.proofs.lemmas.Bool.{cases_lt}
use Rattle.std.proofs.lemmas.List.{get_or_past}
use Rattle.pfs_base.specs.declared.limits.TheConstants.{LONGEST_TIME}
use Rattle.pfs_base.specs.Limits.{limits}
use Rattle.pfs_base.specs.Longest.{longest_makespan, NoneLonger}
use Rattle.pfs_base.specs.FlowShop.{FlowShop, time_of, AreSizes, IsWithin}
use Rattle.pfs_base.specs.Paths.{heaviest, operation, makespan}
use Rattle.pfs_base.proofs.Published.Heaviest.{most, most_here, most_on_last, most_down_last, most_last}

module _ (weigh : ℕ → ℕ → ℕ) where
  -- the weight of the heaviest path to a machine in the last of the given number of rows, and 0 for no rows
  abbrev pub head : ℕ → ℕ → ℕ
  head zero machine = 0
  head (suc row) machine = most weigh row machine 0 0

  -- the same of the operation before this one on its row, and 0 if there is none
  abbrev pub head_before : ℕ → ℕ → ℕ
  head_before row zero = 0
  head_before row (suc machine) = head (suc row) machine

  pub head_step : (row machine : ℕ)
      → head (suc row) machine ≡ max (head row machine) (head_before row machine) + weigh row machine
  head_step zero zero = let e = most_here weigh 0 0 in omega arith
  head_step zero (suc machine) =
      let e = most_on_last weigh machine 0 0 0 (suc machine) refl (omega arith) in omega arith
  head_step (suc row) zero = let e = most_down_last weigh row 0 0 (suc row) 0 (omega arith) refl in omega arith
  head_step (suc row) (suc machine) =
      let e = most_last weigh row machine 0 0 (suc row) (suc machine) (omega arith) (omega arith) in omega arith

  -- the same with `row + 1`, as loops count
  pub head_more : (row machine : ℕ)
      → head (row + 1) machine ≡ max (head row machine) (head_before row machine) + weigh row machine
  head_more row machine = rw add-one (head_step row machine)

  pub head_before_more : (row machine : ℕ) → head_before row (machine + 1) ≡ head (row + 1) machine
  head_before_more row machine = ap (head_before row) (add-one machine) ∙ ap (λ r. head r machine) (sym (add-one row))

  -- if no operation weighs more than a limit, no head is greater than `row + machine` times the limit
  pub head_le : (limit : ℕ) → ((row machine : ℕ) → weigh row machine ≤ limit) → (row machine : ℕ)
      → head row machine ≤ (row + machine) * limit
  head_le limit small zero machine = omega arith
  head_le limit small (suc row) zero =
      let e = head_step row zero in
      let above = head_le limit small row zero in
      let one = small row zero in
      grind arith
  head_le limit small (suc row) (suc machine) =
      let e = head_step row (suc machine) in
      let above = head_le limit small row (suc machine) in
      let before = head_le limit small (suc row) machine in
      let one = small row (suc machine) in
      grind arith

  pub head_before_le : (limit : ℕ) → ((row machine : ℕ) → weigh row machine ≤ limit) → (row machine : ℕ)
      → head_before row machine ≤ (row + machine) * limit
  head_before_le limit small row zero = omega arith
  head_before_le limit small row (suc machine) = let e = head_le limit small (suc row) machine in grind arith

pub heaviest_is : (weigh : ℕ → ℕ → ℕ) (row machine : ℕ) → heaviest weigh 0 0 row machine ≡ most weigh row machine 0 0
heaviest_is weigh row machine =
    let rows : row - 0 ≡ row = omega arith in
    let machines : machine - 0 ≡ machine = omega arith in
    ap (λ x. most weigh x (machine - 0) 0 0) rows ∙ ap (λ x. most weigh row x 0 0) machines

-- the makespan is the head of the last operation
pub makespan_is : (shop : FlowShop) (order : List ℕ)
    → makespan shop order ≡ head (operation shop order) (length order) (shop.machines - 1)
makespan_is shop [] = refl
makespan_is shop (job ∷ jobs) = heaviest_is (operation shop (job ∷ jobs)) (length jobs) (shop.machines - 1)

-- each time is within the limit
pub time_of-le : (shop : FlowShop) → IsWithin limits shop → (job machine : ℕ) → time_of shop job machine ≤ LONGEST_TIME
time_of-le shop within job machine =
    let place = job * shop.machines + machine in
    ⊎_elim (λ (inside : place < length shop.times). within.short_times place 0 inside)
    (λ (past : length shop.times ≤ place). let none =
    get_or_past shop.times place 0 past in omega arith) (cases_lt place (length shop.times))

-- within the limits a path has at most `limits.jobs + limits.machines - 1` cells
cells_few : (jobs all machines : ℕ) → jobs ≤ all → AreSizes limits all machines
    → jobs + (machines - 1) ≤ limits.jobs + limits.machines - 1
cells_few jobs all machines few sizes = omega (arith, few, sizes.few_jobs, sizes.some_machine, sizes.few_machines)

pub none_longer : NoneLonger
none_longer shop jobs within few =
    let times : (row machine : ℕ) → operation shop jobs row machine ≤ limits.time =
    λ row machine. time_of-le shop within (get_or jobs row 0) machine in
    let short = head_le (operation shop jobs) limits.time times (length jobs) (shop.machines - 1) in
    let cells = mul-le-mul_right limits.time (cells_few (length jobs) shop.jobs shop.machines few within.sizes) in
    subst (λ span. span ≤ longest_makespan) (sym (makespan_is shop jobs)) (through _ _ _ short cells)
  where
    through : (a b c : ℕ) → a ≤ b → b ≤ c → a ≤ c
    through a b c h k = omega arith
