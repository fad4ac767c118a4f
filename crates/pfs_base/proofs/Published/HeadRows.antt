-- Rows of heads: each from the row before, equal rows of sequences with the same front, and how great they are.
use Rattle.std.proofs.Common.{◌≡◌, ℕ, zero, suc, ◌+◌, ◌-◌, ◌*◌, ◌<◌, ◌≤◌, max, List, ◌++◌, length, get_or, replicate, take}
use Rattle.std.proofs.Common.{refl, sym, ap, ◌∙◌, add-one, arith}
use Rattle.std.proofs.lemmas.List.{get_or-replicate, get_or-take, get_or_append_left}
use Rattle.std.proofs.lemmas.List.{length-replicate}
use Rattle.pfs_base.specs.declared.bench.TheConstants.{SPAN_MAX}
use Rattle.pfs_base.specs.declared.limits.TheConstants.{LONGEST_TIME}
use Rattle.pfs_base.specs.FlowShop.{FlowShop, IsWithin, time_of}
use Rattle.pfs_base.specs.Heads.{head_of, AreHeads}
use Rattle.pfs_base.specs.Limits.{limits}
use Rattle.pfs_base.specs.Paths.{operation, makespan}
use Rattle.pfs_base.proofs.Published.Heads.{head, head_le, head_step, heaviest_is, makespan_is, time_of-le}

-- ---- heads by the recurrence

module _ (shop : FlowShop) (jobs : List ℕ) where
  pub head_of-is : (rows machine : ℕ) → head_of shop jobs rows machine ≡ head (operation shop jobs) rows machine
  head_of-is zero machine = refl
  head_of-is (suc row) machine = heaviest_is (operation shop jobs) row machine

  -- the last head is the makespan
  pub span_is : makespan shop jobs ≡ head_of shop jobs (length jobs) (shop.machines - 1)
  span_is = makespan_is shop jobs ∙ sym (head_of-is (length jobs) (shop.machines - 1))

  -- the head on the machine before, and 0 if there is none
  abbrev pub head_of_before : ℕ → ℕ → ℕ
  head_of_before rows zero = 0
  head_of_before rows (suc machine) = head_of shop jobs rows machine

  pub head_of_before_more : (rows machine : ℕ) → head_of_before rows (machine + 1) ≡ head_of shop jobs rows machine
  head_of_before_more rows machine = ap (head_of_before rows) (add-one machine)

  pub head_of-step : (row machine : ℕ) → head_of shop jobs (suc row) machine
      ≡ max (head_of shop jobs row machine) (head_of_before (suc row) machine) + operation shop jobs row machine
  head_of-step row zero = omega (
    arith,
    head_step (operation shop jobs) row 0,
    head_of-is row 0,
    head_of-is (suc row) 0,
  )
  head_of-step row (suc machine) = omega (
    arith,
    head_step (operation shop jobs) row (suc machine),
    head_of-is row (suc machine),
    head_of-is (suc row) (suc machine),
    head_of-is (suc row) machine,
  )

  -- what a loop over the machines computes
  pub next_head : (row next machine above before time : ℕ) → next ≡ suc row → above ≡ head_of shop jobs row machine
      → before ≡ head_of_before next machine → time ≡ operation shop jobs row machine
      → max above before + time ≡ head_of shop jobs next machine
  next_head row next machine above before time next_is above_is before_is time_is =
      let start = rw next_is at before_is in
      rw next_is (omega (arith, head_of-step row machine, above_is, start, time_is))

-- ---- sequences with the same front

pub head_of-same : (shop : FlowShop) (one other : List ℕ) (rows machine : ℕ)
    → ((row : ℕ) → row < rows → get_or one row 0 ≡ get_or other row 0)
    → head_of shop one rows machine ≡ head_of shop other rows machine
head_of-same shop one other zero machine same = refl
head_of-same shop one other (suc row) zero same = omega (
  arith,
  head_of-step shop one row 0,
  head_of-step shop other row 0,
  head_of-same shop one other row 0 (λ r lt. same r (omega arith)),
  ap (λ job. time_of shop job 0) (same row (omega arith)),
)
head_of-same shop one other (suc row) (suc machine) same = omega (
  arith,
  head_of-step shop one row (suc machine),
  head_of-step shop other row (suc machine),
  head_of-same shop one other row (suc machine) (λ r lt. same r (omega arith)),
  head_of-same shop one other (suc row) machine same,
  ap (λ job. time_of shop job (suc machine)) (same row (omega arith)),
)

module _ (shop : FlowShop) (jobs : List ℕ) (rows machine : ℕ) where
  pub head_of-take : (count : ℕ) → rows ≤ count → head_of shop (take count jobs) rows machine ≡ head_of shop jobs rows machine
  head_of-take count le = head_of-same shop (take count jobs) jobs rows machine
      (λ row lt. get_or-take count jobs row 0 (omega arith))

  pub head_of-append : (more : List ℕ) → rows ≤ length jobs
      → head_of shop (jobs ++ more) rows machine ≡ head_of shop jobs rows machine
  head_of-append more le = head_of-same shop (jobs ++ more) jobs rows machine
      (λ row lt. get_or_append_left jobs more 0 row (omega arith))

-- ---- how great they are

module _ (shop : FlowShop) (within : IsWithin limits shop) (jobs : List ℕ) where
  pub head_of-le : (rows machine : ℕ) → head_of shop jobs rows machine ≤ (rows + machine) * LONGEST_TIME
  head_of-le rows machine =
      let small = λ (row m : ℕ). time_of-le shop within (get_or jobs row 0) m in
      omega (arith, head_of-is shop jobs rows machine, head_le (operation shop jobs) LONGEST_TIME small rows machine)

  -- what a loop over the machines adds up
  head_of_before-le : (rows machine : ℕ) → head_of_before shop jobs rows machine ≤ (rows + machine) * LONGEST_TIME
  head_of_before-le rows zero = omega arith
  head_of_before-le rows (suc machine) = omega (arith, head_of-le rows machine)

  pub heads_fit : (row next machine above before : ℕ) → row ≤ shop.jobs + 1 → next ≡ suc row → machine < shop.machines
      → above ≡ head_of shop jobs row machine → before ≡ head_of_before shop jobs next machine
      → (above ≤ SPAN_MAX) × (before ≤ SPAN_MAX)
  heads_fit row next machine above before few next_is lt above_is before_is =
      let sizes = within.sizes in (
        omega (arith, above_is, head_of-le row machine, few, sizes, lt),
        omega (arith, before_is, head_of_before-le next machine, few, next_is, sizes, lt),
      )

-- before the first job all heads are 0
pub heads_none : (shop : FlowShop) (jobs : List ℕ) (count : ℕ) → shop.machines ≤ count
    → AreHeads shop jobs 0 (replicate count 0)
heads_none shop jobs count few = record {
  every = omega (arith, length-replicate {A = ℕ});
  values = λ machine lt. get_or-replicate count machine 0 0 (omega arith);
}
