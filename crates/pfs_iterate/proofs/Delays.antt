-- Heads of a sequence with an inserted job, and their sums over the machines.
use Rattle.std.proofs.Common.{◌≡◌, ℕ, zero, suc, ◌+◌, ◌-◌, ◌*◌, ◌<◌, ◌≤◌, List, length, get_or, insert, take, sum_by}
use Rattle.std.proofs.Common.{max, refl, sym, ap, ap₂, ◌∙◌, inl, inr, add-one, arith}
use Rattle.std.specs.List.{range_with_len}
use Rattle.std.proofs.lemmas.Bool.{cases_eq, cases_lt}
use Rattle.std.proofs.lemmas.List.{get_or-take, length-take-le, take_all}
use Rattle.std.proofs.lemmas.List.Edits.{get_or-insert_at, get_or-insert_above, get_or-insert_below}
use Rattle.pfs_base.specs.declared.limits.TheConstants.{MOST_JOBS, MOST_MACHINES, LONGEST_TIME}
use Rattle.pfs_base.specs.FlowShop.{FlowShop, IsWithin, time_of}
use Rattle.pfs_base.specs.Heads.{head_of}
use Rattle.pfs_base.specs.Limits.{limits}
use Rattle.pfs_base.specs.Paths.{operation}
use Rattle.pfs_base.specs.declared.bench.TheConstants.{SPAN_MAX}
use Rattle.pfs_base.proofs.Published.HeadRows.{head_of-le, head_of-same, head_of-step, head_of_before, heads_fit, next_head}
use Rattle.pfs_audit.proofs.Published.Ranges.{sum_by-below-more, sum_by-below-suc}
use Rattle.pfs_iterate.specs.Laws.{DelayLaw}
use Rattle.pfs_iterate.specs.Iterated.{count_to, total_delay}

module _ (shop : FlowShop) (jobs : List ℕ) (job place : ℕ) (within : place ≤ length jobs) where
  abbrev with_job : List ℕ
  with_job = insert jobs place job

  -- the heads before the job, its times, and those of the jobs after it
  pub above : (machine : ℕ) → head_of shop with_job place machine ≡ head_of shop jobs place machine
  above machine =
      head_of-same shop with_job jobs place machine (λ row lt. get_or-insert_below jobs place job 0 row lt within)

  pub job_at : (machine : ℕ) → operation shop with_job place machine ≡ time_of shop job machine
  job_at machine = ap (λ j. time_of shop j machine) (get_or-insert_at jobs place job 0 within)

  pub next_at : (row machine : ℕ) → place ≤ row
      → operation shop with_job (row + 1) machine ≡ operation shop jobs row machine
  next_at row machine le = ap (λ j. time_of shop j machine) (get_or-insert_above jobs place job 0 row le within)

  -- no machine ends earlier than before, with the job or with the next one
  pub later : (machine : ℕ) → head_of shop jobs place machine ≤ head_of shop with_job (place + 1) machine
  later machine = rw add-one (omega (arith, head_of-step shop with_job place machine, above machine))

  pub later_next : (machine : ℕ) → head_of shop jobs (place + 1) machine ≤ head_of shop with_job (place + 2) machine
  later_next zero =
      let two : place + 2 ≡ suc (suc place) = omega arith in
      rw (add-one, two) (omega (
        arith,
        head_of-step shop jobs place 0,
        head_of-step shop with_job (suc place) 0,
        rw add-one at (later 0),
        rw add-one at (next_at place 0 (omega arith)),
      ))
  later_next (suc machine) =
      let two : place + 2 ≡ suc (suc place) = omega arith in
      rw (add-one, two) (omega (
        arith,
        head_of-step shop jobs place (suc machine),
        head_of-step shop with_job (suc place) (suc machine),
        rw add-one at (later (suc machine)),
        rw (add-one, two) at (later_next machine),
        rw add-one at (next_at place (suc machine) (omega arith)),
      ))

pub count_inside : (jobs : List ℕ) (place : ℕ) → place < length jobs → count_to jobs place ≡ place + 1
count_inside jobs place inside = omega arith

pub count_end : (jobs : List ℕ) (place : ℕ) → place ≡ length jobs → count_to jobs place ≡ place
count_end jobs place at = omega (arith, at)

-- what a loop over the machines computes of the job at the place, or of the inserted one if none is behind it
module _ (shop : FlowShop) (jobs : List ℕ) (job place : ℕ) (within : place ≤ length jobs) (machine end before : ℕ)
    (end_is : end ≡ head_of shop (insert jobs place job) (place + 1) machine)
    (before_is : before ≡ head_of_before shop (insert jobs place job) (count_to jobs place + 1) machine) where
  abbrev inserted : List ℕ
  inserted = insert jobs place job

  last : (machine : ℕ) → head_of_before shop inserted (place + 1) machine ≤ head_of shop inserted (place + 1) machine
  last zero = omega arith
  last (suc machine) = rw add-one (omega (arith, head_of-step shop inserted place (suc machine)))

  pub next_end_is : (time : ℕ) → (place < length jobs → time ≡ operation shop jobs place machine)
      → (length jobs ≤ place → time ≡ 0) → max end before + time ≡ head_of shop inserted (count_to jobs place + 1) machine
  next_end_is time inside past =
      elim (cases_lt place (length jobs)) [
        | inl lt ↦
            let count = count_inside jobs place lt in
            let two : place + 1 + 1 ≡ place + 2 = omega arith in
            rw (count, two) (next_head shop inserted (place + 1) (place + 2) machine end before time (omega arith) end_is
            (rw (count, two) at before_is) (inside lt ∙ sym (next_at shop jobs job place within place machine (omega arith))))
        | inr le ↦
            let count = count_end jobs place (omega arith) in
            rw count (omega (arith, end_is, rw count at before_is, last machine, past le))
      ]

  pub ends_fit : IsWithin limits shop → length jobs ≤ shop.jobs → machine < shop.machines
      → (end ≤ SPAN_MAX) × (before ≤ SPAN_MAX)
  ends_fit limited few lt = (
    (heads_fit shop limited inserted (place + 1) (place + 2) machine end _ (omega arith) (omega arith) lt end_is refl).0,
    (heads_fit shop limited inserted (count_to jobs place) (count_to jobs place + 1) machine _ before (omega arith)
        (omega arith) lt refl before_is).1,
  )

pub delay_law : DelayLaw
delay_law shop jobs job place machine within =
    elim (cases_lt place (length jobs)) [
      | inl inside ↦
          let two : place + 1 + 1 ≡ place + 2 = omega arith in
          rw (count_inside jobs place inside, two) (later_next shop jobs job place within machine)
      | inr past ↦ rw (count_end jobs place (omega arith)) (later shop jobs job place within machine)
    ]

-- ---- sums over the machines

pub sums_later : (f g : ℕ → ℕ) (n : ℕ) → ((machine : ℕ) → f machine ≤ g machine)
    → sum_by f (range_with_len 0 n) ≤ sum_by g (range_with_len 0 n)
sums_later f g zero all = omega arith
sums_later f g (suc n) all =
    omega (arith, sum_by-below-suc f n, sum_by-below-suc g n, sums_later f g n all, all n)

sums_same : (f g : ℕ → ℕ) (n : ℕ) → ((machine : ℕ) → f machine ≡ g machine)
    → sum_by f (range_with_len 0 n) ≡ sum_by g (range_with_len 0 n)
sums_same f g zero all = omega arith
sums_same f g (suc n) all =
    omega (arith, sum_by-below-suc f n, sum_by-below-suc g n, sums_same f g n all, all n)

-- what a loop over the machines adds up
pub sum_more : (f : ℕ → ℕ) (n sum next : ℕ) → sum ≡ sum_by f (range_with_len 0 n) → next ≡ f n
    → sum + next ≡ sum_by f (range_with_len 0 (n + 1))
sum_more f n sum next so_far here = omega (arith, sum_by-below-more f n)

pub sum_short : (shop : FlowShop) → IsWithin limits shop → (jobs : List ℕ) (count : ℕ) → count ≤ shop.jobs + 1
    → (n : ℕ) → n ≤ shop.machines
    → sum_by (head_of shop jobs count) (range_with_len 0 n) ≤ n * ((MOST_JOBS + MOST_MACHINES + 1) * LONGEST_TIME)
sum_short shop within jobs count few zero le = omega arith
sum_short shop within jobs count few (suc n) le =
    let sizes = within.sizes in
    omega (
      arith,
      sum_by-below-suc (head_of shop jobs count) n,
      sum_short shop within jobs count few n (omega arith),
      head_of-le shop within jobs count n,
    )

-- a sequence and its front have the same jobs up to the next one, also with an inserted job
inserted_same : (jobs : List ℕ) (job place count row : ℕ) → place ≤ length (take count jobs) → place ≤ length jobs
    → ((row : ℕ) → row < count → get_or (take count jobs) row 0 ≡ get_or jobs row 0) → place < count → row < place + 2
    → get_or (insert (take count jobs) place job) row 0 ≡ get_or (insert jobs place job) row 0
inserted_same jobs job place count row small within same inside few =
    elim (cases_lt row place) [
      | inl before ↦
          get_or-insert_below (take count jobs) place job 0 row before small ∙ same row (omega arith)
          ∙ sym (get_or-insert_below jobs place job 0 row before within)
      | inr past ↦ elim (cases_eq row place) [
        | inl at ↦
            rw at (get_or-insert_at (take count jobs) place job 0 small ∙ sym (get_or-insert_at jobs place job 0 within))
        | inr other ↦
            let next : row ≡ place + 1 = omega (arith, other) in
            rw next (get_or-insert_above (take count jobs) place job 0 place (omega arith) small ∙ same place inside
            ∙ sym (get_or-insert_above jobs place job 0 place (omega arith) within))
      ]
    ]

-- the total delay needs no job after the next one
pub delay_in_front : (shop : FlowShop) (jobs : List ℕ) (job place count : ℕ) → count ≤ length jobs → place ≤ length jobs
    → (place < length jobs → place < count) → (place ≡ length jobs → count ≡ length jobs)
    → total_delay shop (take count jobs) job place ≡ total_delay shop jobs job place
delay_in_front shop jobs job place count le within inside_is end_is =
    elim (cases_lt place (length jobs)) [
      | inl inside ↦
          let before = inside_is inside in
          let long = length-take-le count jobs le in
          let small : place ≤ length (take count jobs) = omega (arith, long) in
          let same : (row : ℕ) → row < count → get_or (take count jobs) row 0 ≡ get_or jobs row 0 =
          λ row lt. get_or-take count jobs row 0 lt in
          rw (count_inside (take count jobs) place (omega (arith, long)), count_inside jobs place inside)
          (ap₂ (λ now old. now - old)
          (sums_same _ _ shop.machines (λ machine. head_of-same shop (insert (take count jobs) place job) (insert jobs place job)
          (place + 1 + 1) machine (λ row lt. inserted_same jobs job place count row small within same (omega arith) (omega arith))))
          (sums_same _ _ shop.machines (λ machine. head_of-same shop (take count jobs) jobs (place + 1) machine
          (λ row lt. same row (omega arith)))))
      | inr past ↦ ap (λ list. total_delay shop list job place) (take_all count jobs (omega (arith, end_is (omega arith))))
    ]
