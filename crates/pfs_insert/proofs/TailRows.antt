-- The recurrences of heads and tails, and how short they are.
use Rattle.std.proofs.Common.{◌≡◌, ℕ, zero, suc, ◌+◌, ◌-◌, ◌*◌, ◌<◌, ◌≤◌, max, List, length, get_or, insert, refl, ap}
use Rattle.std.proofs.Common.{sym, ◌∙◌, inl, inr, add-one, arith, Bool, true, false}
use Rattle.std.proofs.lemmas.Bool.{cases_lt, lt-ltb}
use Rattle.pfs_base.specs.declared.limits.TheConstants.{MOST_JOBS, MOST_MACHINES, LONGEST_TIME}
use Rattle.pfs_base.specs.FlowShop.{FlowShop, time_of, IsWithin}
use Rattle.pfs_base.specs.Heads.{head_of}
use Rattle.pfs_base.specs.Limits.{limits}
use Rattle.pfs_base.specs.Paths.{operation}
use Rattle.pfs_base.proofs.Published.Heaviest.{most, most_here, most_on, most_down, most_first, most_moved}
use Rattle.pfs_base.proofs.Published.Heads.{head, head_le, head_step, heaviest_is, time_of-le}
use Rattle.pfs_base.proofs.Published.HeadRows.{head_of-is, head_of-le}
use Rattle.pfs_insert.specs.Exchange.{heaviest_front, heaviest_back}
use Rattle.pfs_insert.specs.Private.Rows.{in_turn, next_row, row_value, times_in_turn}
use Rattle.pfs_insert.proofs.Exchange.{back_none, operation_before, operation_at}
use Rattle.pfs_insert.proofs.RowSteps.{next_row_same}

-- a path that goes `downs` rows down and `ons` machines on has downs + ons + 1 cells, so it weighs at most that many
-- times the longest time
most_le : (weigh : ℕ → ℕ → ℕ) → ((row machine : ℕ) → weigh row machine ≤ LONGEST_TIME) → (downs ons row machine : ℕ)
    → most weigh downs ons row machine ≤ (downs + ons + 1) * LONGEST_TIME
most_le weigh small zero zero row machine = omega (arith, most_here weigh row machine, small row machine)
most_le weigh small zero (suc ons) row machine =
    let beside = most_le weigh small zero ons row (suc machine) in
    omega (arith, most_on weigh ons row machine, small row machine)
most_le weigh small (suc downs) zero row machine =
    let under = most_le weigh small downs zero (suc row) machine in
    omega (arith, most_down weigh downs row machine, small row machine)
most_le weigh small (suc downs) (suc ons) row machine =
    let under = most_le weigh small downs (suc ons) (suc row) machine in
    let beside = most_le weigh small (suc downs) ons row (suc machine) in
    omega (arith, most_first weigh downs ons row machine, small row machine)

module _ (shop : FlowShop) (jobs : List ℕ) where
  abbrev weigh : ℕ → ℕ → ℕ
  weigh = operation shop jobs

  abbrev last : ℕ
  last = shop.machines - 1

  back_is : (row machine downs ons : ℕ) → row + downs + 1 ≡ length jobs → machine + ons ≡ last →
      heaviest_back shop jobs row machine ≡ most weigh downs ons row machine
  back_is row machine downs ons rows machines =
      let down : length jobs - 1 - row ≡ downs = omega arith in
      let on : last - machine ≡ ons = omega arith in
      rw (lt-ltb row (length jobs) (omega arith), down, on) refl

  -- a tail on the last machine, from the one below it
  pub back_last : (row machine : ℕ) → row < length jobs → machine ≡ last →
      heaviest_back shop jobs row machine ≡ heaviest_back shop jobs (suc row) machine + weigh row machine
  back_last row machine inside at_end =
      elim (cases_lt (suc row) (length jobs)) [
        | inl more ↦
            let downs = length jobs - 1 - suc row in
            omega (
              arith,
              back_is row machine (suc downs) 0 (omega arith) (omega arith),
              back_is (suc row) machine downs 0 (omega arith) (omega arith),
              most_down weigh downs row machine,
            )
        | inr none ↦
            omega (
              arith,
              back_is row machine 0 0 (omega arith) (omega arith),
              back_none shop jobs (suc row) machine none,
              most_here weigh row machine,
            )
      ]

  -- a tail on a machine before the last, from the one below it and the one after it
  pub back_more : (row machine : ℕ) → row < length jobs → machine < last → heaviest_back shop jobs row machine
      ≡ max (heaviest_back shop jobs (suc row) machine) (heaviest_back shop jobs row (suc machine)) + weigh row machine
  back_more row machine inside before =
      let ons = last - suc machine in
      elim (cases_lt (suc row) (length jobs)) [
        | inl more ↦
            let downs = length jobs - 1 - suc row in
            omega (
              arith,
              back_is row machine (suc downs) (suc ons) (omega arith) (omega arith),
              back_is (suc row) machine downs (suc ons) (omega arith) (omega arith),
              back_is row (suc machine) (suc downs) ons (omega arith) (omega arith),
              most_first weigh downs ons row machine,
            )
        | inr none ↦
            omega (
              arith,
              back_is row machine 0 (suc ons) (omega arith) (omega arith),
              back_none shop jobs (suc row) machine none,
              back_is row (suc machine) 0 ons (omega arith) (omega arith),
              most_on weigh ons row machine,
            )
      ]

  -- a row of heads is `next_row` of the row of heads above it
  next_row_heads : (row machine : ℕ) → next_row (weigh row) (head weigh row) machine ≡ head weigh (suc row) machine
  next_row_heads row zero = omega (arith, head_step weigh row 0)
  next_row_heads row (suc machine) = omega (arith, head_step weigh row (suc machine), next_row_heads row machine)

  -- a row of tails, from the last machine on, is `next_row` of the row of tails below it
  next_row_tails : (row job turn : ℕ) → row < length jobs → job ≡ get_or jobs row 0 → turn < shop.machines
      → next_row (times_in_turn shop job true) (λ k. heaviest_back shop jobs (suc row) (last - k)) turn
      ≡ heaviest_back shop jobs row (last - turn)
  next_row_tails row job zero inside job_is lt =
      omega (
        arith,
        back_last row (last - 0) inside (omega arith),
        ap (λ j. time_of shop j (last - 0)) job_is,
      )
  next_row_tails row job (suc turn) inside job_is lt =
      let machine = last - suc turn in
      let on : last - turn ≡ suc machine = omega arith in
      omega (
        arith,
        back_more row machine inside (omega arith),
        ap (λ j. time_of shop j machine) job_is,
        rw on at (next_row_tails row job turn inside job_is (omega arith)),
      )

module _ (shop : FlowShop) (jobs : List ℕ) (job place : ℕ) (within : place ≤ length jobs) where
  -- the heads of the rows before the inserted one are those of the sequence without the job
  pub same_heads : (row machine : ℕ) → row ≤ place →
      head (operation shop jobs) row machine ≡ head (operation shop (insert jobs place job)) row machine
  same_heads zero machine le = refl
  same_heads (suc row) machine le =
      most_moved (operation shop jobs) (operation shop (insert jobs place job)) row machine 0 0 0
      (λ k m below. sym (operation_before shop jobs job place within (0 + k) m (omega arith)))

  front_is : (machine : ℕ) → next_row (time_of shop job) (head (operation shop jobs) place) machine
      ≡ heaviest_front shop (insert jobs place job) place machine
  front_is machine =
      let weigh = operation shop (insert jobs place job) in
      next_row_same (time_of shop job) (weigh place) (head (operation shop jobs) place) (head weigh place) machine
      (λ k le. sym (operation_at shop jobs job place within k)) (λ k le. same_heads place k (omega arith))
      ∙ next_row_heads shop (insert jobs place job) place machine ∙ sym (heaviest_is weigh place machine)

-- the row of the next job, of heads or of tails
pub row_next : (shop : FlowShop) (jobs : List ℕ) (back : Bool) (count job turn : ℕ) → count < length jobs
    → job ≡ get_or jobs (in_turn back (length jobs) count) 0 → turn < shop.machines
    → next_row (times_in_turn shop job back) (row_value shop jobs back count) turn
    ≡ row_value shop jobs back (count + 1) turn
row_next shop jobs false count job turn inside job_is lt =
    next_row_same (time_of shop job) (operation shop jobs count) (head_of shop jobs count)
    (head (operation shop jobs) count) turn (λ m le. ap (λ j. time_of shop j m) job_is)
    (λ m le. head_of-is shop jobs count m)
    ∙ next_row_heads shop jobs count turn ∙ rw add-one (sym (head_of-is shop jobs (suc count) turn))
row_next shop jobs true count job turn inside job_is lt =
    let row = length jobs - 1 - count in
    let under : length jobs - count ≡ suc row = omega arith in
    let here : length jobs - (count + 1) ≡ row = omega arith in
    next_row_same (times_in_turn shop job true) (times_in_turn shop job true) (row_value shop jobs true count)
    (λ k. heaviest_back shop jobs (suc row) (shop.machines - 1 - k)) turn (λ k le. refl)
    (λ k le. ap (λ r. heaviest_back shop jobs r (shop.machines - 1 - k)) under)
    ∙ next_row_tails shop jobs row job turn (omega arith) job_is lt
    ∙ ap (λ r. heaviest_back shop jobs r (shop.machines - 1 - turn)) (sym here)

-- the row of a job inserted at a place
pub put_row : (shop : FlowShop) (jobs : List ℕ) (job place : ℕ) → place ≤ length jobs → (machine : ℕ)
    → next_row (times_in_turn shop job false) (head_of shop jobs place) machine
    ≡ heaviest_front shop (insert jobs place job) place machine
put_row shop jobs job place within machine =
    next_row_same (time_of shop job) (time_of shop job) (head_of shop jobs place) (head (operation shop jobs) place)
    machine (λ m le. refl) (λ m le. head_of-is shop jobs place m)
    ∙ front_is shop jobs job place within machine

-- heads and tails are within the bound on the weight of a path
module _ (shop : FlowShop) (within : IsWithin limits shop) (jobs : List ℕ) (few : length jobs ≤ shop.jobs) where
  pub tails_short : (row machine : ℕ) → machine < shop.machines →
      heaviest_back shop jobs row machine ≤ (MOST_JOBS + MOST_MACHINES) * LONGEST_TIME
  tails_short row machine lt =
      let sizes = within.sizes in
      let downs = length jobs - 1 - row in
      let ons = shop.machines - 1 - machine in
      elim (cases_lt row (length jobs)) [
        | inl inside ↦
            omega (
              arith,
              back_is shop jobs row machine downs ons (omega arith) (omega arith),
              most_le (operation shop jobs) (λ r m. time_of-le shop within (get_or jobs r 0) m) downs ons row machine,
            )
        | inr none ↦ omega (arith, back_none shop jobs row machine none)
      ]

  pub heads_short : (place machine : ℕ) → place ≤ length jobs → machine < shop.machines →
      head_of shop jobs place machine ≤ (MOST_JOBS + MOST_MACHINES) * LONGEST_TIME
  heads_short place machine le lt =
      let sizes = within.sizes in
      omega (arith, head_of-le shop within jobs place machine)

  pub rows_short : (back : Bool) (count turn : ℕ) → count ≤ length jobs → turn < shop.machines
      → row_value shop jobs back count turn ≤ (MOST_JOBS + MOST_MACHINES) * LONGEST_TIME
  rows_short true count turn le lt = tails_short (length jobs - count) (shop.machines - 1 - turn) (omega arith)
  rows_short false count turn le lt = heads_short count turn le lt

  -- the row of an inserted job is within the bound for a path of one cell more
  pub put_short : (job place machine : ℕ) → place ≤ length jobs → machine < shop.machines →
      heaviest_front shop (insert jobs place job) place machine ≤ (MOST_JOBS + MOST_MACHINES + 1) * LONGEST_TIME
  put_short job place machine le lt =
      let sizes = within.sizes in
      let weigh = operation shop (insert jobs place job) in
      let small = λ (r m : ℕ). time_of-le shop within (get_or (insert jobs place job) r 0) m in
      omega (arith, heaviest_is weigh place machine, head_le weigh LONGEST_TIME small (suc place) machine)
