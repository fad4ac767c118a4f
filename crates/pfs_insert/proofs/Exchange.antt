-- The exchange law.
use Rattle.std.proofs.Common.{◌≡◌, ℕ, zero, suc, ◌+◌, ◌-◌, ◌<◌, ◌≤◌, List, length, map, refl, sym, ap, ◌∙◌, inl, inr}
use Rattle.std.proofs.Common.{arith, add-one}
use Rattle.std.specs.List.{insert, range_with_len}
use Rattle.std.proofs.Math.Nat.{zero-add}
use Rattle.std.proofs.lemmas.Bool.{cases_lt, lt-ltb, le-ltb}
use Rattle.std.proofs.lemmas.List.Edits.{length-insert, get_or-insert_below, get_or-insert_at, get_or-insert_above}
use Rattle.pfs_base.specs.FlowShop.{FlowShop, time_of}
use Rattle.pfs_base.specs.Paths.{greatest, operation}
use Rattle.pfs_base.proofs.Published.Heads.{head, heaviest_is, makespan_is}
use Rattle.pfs_base.proofs.Published.Heaviest.{most, most_moved, most_on_last, most_last, onward, by_exit, most_by_exit}
use Rattle.pfs_base.proofs.Published.Heaviest.{greatest_to, greatest_to_same, greatest_to_last}
use Rattle.pfs_base.proofs.Published.Heaviest.{greatest-map-range_with_len}
use Rattle.pfs_insert.specs.Exchange.{ExchangeLaw, heaviest_front, heaviest_back}
use Rattle.pfs_insert.specs.Insertion.{makespan_with}

-- the heaviest path to the next machine of a row is at least as heavy
rises : (weigh : ℕ → ℕ → ℕ) (row machine : ℕ) → most weigh row machine 0 0 ≤ most weigh row (suc machine) 0 0
rises weigh zero machine = omega (arith, most_on_last weigh machine 0 0 0 (suc machine) refl (omega arith))
rises weigh (suc row) machine =
    omega (arith, most_last weigh row machine 0 0 (suc row) (suc machine) (omega arith) (omega arith))

-- after the last row the tail is 0: no path begins there
pub back_none : (shop : FlowShop) (jobs : List ℕ) (row machine : ℕ) → length jobs ≤ row
    → heaviest_back shop jobs row machine ≡ 0
back_none shop jobs row machine past = rw (le-ltb row (length jobs) past) refl

module _ (shop : FlowShop) (jobs : List ℕ) (job place : ℕ) (within : place ≤ length jobs) where
  abbrev weigh : ℕ → ℕ → ℕ
  weigh = operation shop (insert jobs place job)

  abbrev last : ℕ
  last = shop.machines - 1

  -- the operations of the rows after the inserted one are those of the sequence without the job
  operation_after : (row machine : ℕ) → place ≤ row → weigh (row + 1) machine ≡ operation shop jobs row machine
  operation_after row machine le =
      ap (λ j. time_of shop j machine) (get_or-insert_above jobs place job 0 row le within)

  -- the operations of the rows before the inserted one are those of the sequence without the job
  pub operation_before : (row machine : ℕ) → row < place → weigh row machine ≡ operation shop jobs row machine
  operation_before row machine lt =
      ap (λ j. time_of shop j machine) (get_or-insert_below jobs place job 0 row lt within)

  pub operation_at : (machine : ℕ) → weigh place machine ≡ time_of shop job machine
  operation_at machine = ap (λ j. time_of shop j machine) (get_or-insert_at jobs place job 0 within)

  -- the makespan with the job is the weight of the heaviest path through one row more than the sequence has
  with_is : makespan_with shop jobs job place ≡ most weigh (length jobs) last 0 0
  with_is =
      makespan_is shop (insert jobs place job)
      ∙ ap (λ n. head weigh n last) (length-insert jobs place job within ∙ add-one (length jobs))

  -- the sum of the inserted row's head and the tail of the sequence without the job, at a machine
  abbrev sum_through : ℕ → ℕ
  sum_through machine =
      heaviest_front shop (insert jobs place job) place machine + heaviest_back shop jobs place machine

  back_onward : place < length jobs → (machine : ℕ) →
      heaviest_back shop jobs place machine ≡ onward weigh (length jobs - 1 - place) (suc place) last machine
  back_onward inside machine =
      rw (lt-ltb place (length jobs) inside)
      (sym (most_moved weigh (operation shop jobs) (length jobs - 1 - place) (last - machine) (suc place) place machine
      (λ k m le.
      let e : suc place + k ≡ place + k + 1 = omega arith in
      ap (λ r. weigh r m) e ∙ operation_after (place + k) m (omega arith))))

  -- a path leaves the row of the inserted job at one machine
  exchange_to : most weigh (length jobs) last 0 0 ≡ greatest_to sum_through last
  exchange_to =
      elim (cases_lt place (length jobs)) [
        | inl inside ↦
            let rest = length jobs - 1 - place in
            let total = length jobs - 1 in
            let one_more : length jobs ≡ suc total = omega arith in
            ap (λ n. most weigh n last 0 0) one_more
            ∙ most_by_exit weigh rest (suc place) last place last 0 0 total (omega arith) (omega arith) (omega arith)
            ∙ greatest_to_same (by_exit weigh rest (suc place) last place 0 0) sum_through last
            (λ x le. rw zero-add (omega (arith, heaviest_is weigh place x, back_onward inside x)))
        | inr after ↦
            let all : length jobs ≡ place = omega arith in
            ap (λ n. most weigh n last 0 0) all
            ∙ sym (greatest_to_last (λ x. most weigh place x 0 0) last (rises weigh place))
            ∙ greatest_to_same (λ x. most weigh place x 0 0) sum_through last
            (λ x le. omega (arith, heaviest_is weigh place x, back_none shop jobs place x after))
      ]

pub exchange_law : ExchangeLaw
exchange_law shop jobs job place some within =
    let sum = sum_through shop jobs job place within in
    let machines : suc (shop.machines - 1) ≡ shop.machines = omega arith in
    with_is shop jobs job place within ∙ exchange_to shop jobs job place within
    ∙ greatest_to_same sum (λ x. sum (0 + x)) (shop.machines - 1) (λ x le. rw zero-add refl)
    ∙ sym (greatest-map-range_with_len sum 0 (shop.machines - 1))
    ∙ ap (λ n. greatest (map sum (range_with_len 0 n))) machines
