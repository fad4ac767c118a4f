-- Bounds by a machine and a later one.
use Rattle.std.proofs.Common.{◌≡◌, ◌⊎◌, ℕ, zero, suc, ◌+◌, ◌-◌, ◌<◌, ◌≤◌, max, min, List, [], ◌∷◌, ◌++◌, length, get_or}
use Rattle.std.proofs.Common.{inl, inr, Contains, ap, sym, ◌∙◌, subst, arith}
use Rattle.std.specs.List.{sum_by}
use Rattle.std.proofs.Math.Nat.{add-zero, add-suc}
use Rattle.std.proofs.lemmas.Bool.{cases_lt}
use Rattle.std.proofs.lemmas.List.{append_assoc, append-nil, length-append}
use Rattle.std.proofs.lemmas.List.Sums.{sum_by-cons, sum_by-le-sum_by}
use Rattle.pfs_base.specs.FlowShop.{FlowShop, time_of}
use Rattle.pfs_base.specs.Heads.{head_of}
use Rattle.pfs_order.specs.Sequence.{IsSequence, all_jobs}
use Rattle.pfs_order.proofs.Published.Sequences.{Contains-all}
use Rattle.pfs_audit.specs.Bound.{time_on}
use Rattle.pfs_audit.proofs.Published.Orders.{sum_by-order}
use Rattle.pfs_audit.proofs.Published.Ranges.{sum_by-range-suc}
use Rattle.pfs_exact.specs.Private.Nodes.{AreAcross, IsFull, IsStart, IsThrough}
use Rattle.pfs_exact.proofs.Heads.{down, on, reach}
use Rattle.pfs_exact.proofs.GrownEnds.{from_none}

-- ---- lists of jobs that pass from one machine to another, at times `one`, `across` and `two`

-- the greatest sum of times along a list that passes at one of its jobs
abbrev pub passing : (ℕ → ℕ) → (ℕ → ℕ) → (ℕ → ℕ) → List ℕ → ℕ
passing one across two [] = 0
passing one across two (job ∷ rest) = max (across job + sum_by two rest) (one job + passing one across two rest)

module _ (one across two weight : ℕ → ℕ) (time job : ℕ) (here : time + weight job ≤ across job) where
  -- the first job of those that pass with this time
  pub passing_first : ((x : ℕ) → weight x ≤ two x) → ((x : ℕ) → (time + weight x ≤ across x) ⊎ (weight x ≤ one x))
      → (jobs : List ℕ) → Contains jobs job → time + sum_by weight jobs ≤ passing one across two jobs
  passing_first below every [] (at, within, found) = absurd (omega arith)
  passing_first below every (x ∷ rest) (zero, within, found) =
      let less = sum_by-le-sum_by weight two rest below in
      let more = sum_by-cons weight x rest in
      let same : time + weight x ≤ across x = rw found here in
      omega arith
  passing_first below every (x ∷ rest) (suc at, within, found) =
      let more = sum_by-cons weight x rest in
      elim (every x) [
        | inl passes ↦ let less = sum_by-le-sum_by weight two rest below in omega arith
        | inr stays ↦ let before = passing_first below every rest (at, omega arith, found) in omega arith
      ]

  module _ (below : (x : ℕ) → weight x ≤ one x) (every : (x : ℕ) → (time + weight x ≤ across x) ⊎ (weight x ≤ two x)) where
    none_or_last : (jobs : List ℕ) →
        (sum_by weight jobs ≤ sum_by two jobs) ⊎ (time + sum_by weight jobs ≤ passing one across two jobs)
    none_or_last [] = inl (omega arith)
    none_or_last (x ∷ rest) =
        let more = sum_by-cons weight x rest in
        let twice = sum_by-cons two x rest in
        let small = below x in
        elim (none_or_last rest) [
          | inr last ↦ inr (omega arith)
          | inl none ↦ elim (every x) [
            | inl passes ↦ inr (omega arith)
            | inr stays ↦ inl (omega arith)
          ]
        ]

    -- the last job of those that pass with this time
    pub passing_last : (jobs : List ℕ) → Contains jobs job → time + sum_by weight jobs ≤ passing one across two jobs
    passing_last [] (at, within, found) = absurd (omega arith)
    passing_last (x ∷ rest) (zero, within, found) =
        let more = sum_by-cons weight x rest in
        let small = below x in
        let same : time + weight x ≤ across x = rw found here in
        elim (none_or_last rest) [
          | inr last ↦ omega arith
          | inl none ↦ omega arith
        ]
    passing_last (x ∷ rest) (suc at, within, found) =
        let more = sum_by-cons weight x rest in
        let small = below x in
        let before = passing_last rest (at, omega arith, found) in
        omega arith

-- ---- paths of an order

-- along a row
pub row : (shop : FlowShop) (front : List ℕ) (job : ℕ) (rest : List ℕ) (machine time many : ℕ)
    → time + time_of shop job machine ≤ head_of shop (front ++ job ∷ rest) (suc (length front)) machine
    → time + time_on shop machine (suc many) job
    ≤ head_of shop (front ++ job ∷ rest) (suc (length front)) (machine + many)
row shop front job rest machine time zero start =
    let one = sum_by-range-suc (time_of shop job) machine 0 in rw (add-zero machine) (omega arith)
row shop front job rest machine time (suc many) start =
    let before = row shop front job rest machine time many start in
    let step = on shop front job rest (machine + many) in
    let e : machine + suc many ≡ suc (machine + many) = add-suc machine many in
    let more = rw e at (sum_by-range-suc (time_of shop job) machine (suc many)) in
    rw e (omega arith)

module _ (shop : FlowShop) (first many : ℕ) where
  abbrev pub On : ℕ → ℕ → ℕ
  On machine job = time_of shop job machine

  pub first_le : (n : ℕ) (job : ℕ) → time_of shop job first ≤ time_on shop first (suc n) job
  first_le zero job = let one = rw (add-zero first) at (sum_by-range-suc (time_of shop job) first 0) in omega arith
  first_le (suc n) job =
      let before = first_le n job in
      let more = sum_by-range-suc (time_of shop job) first (suc n) in
      omega arith

  pub last_le : (job : ℕ) → time_of shop job (first + many) ≤ time_on shop first (suc many) job
  last_le job = let more = sum_by-range-suc (time_of shop job) first many in omega arith

  -- from the start of a job to the end of the jobs between
  path : (back rest front : List ℕ) (job time : ℕ)
      → time + time_of shop job first ≤ head_of shop (front ++ job ∷ (rest ++ back)) (suc (length front)) first
      → time + passing (On first) (time_on shop first (suc many)) (On (first + many)) (job ∷ rest)
      ≤ head_of shop (front ++ job ∷ (rest ++ back)) (length front + suc (length rest)) (first + many)
  path back [] front job time start =
      let along = row shop front job back first time many start in
      let least = first_le many job in
      let rows : length front + 1 ≡ suc (length front) = omega arith in
      rw rows (omega arith)
  path back (next ∷ rest) front job time start =
      let e : (front ++ job ∷ []) ++ (next ∷ (rest ++ back)) ≡ front ++ job ∷ (next ∷ (rest ++ back)) =
      append_assoc front (job ∷ []) (next ∷ (rest ++ back)) in
      let long : length (front ++ job ∷ []) ≡ suc (length front) = length-append front (job ∷ []) ∙ omega arith in
      let along = row shop front job (next ∷ (rest ++ back)) first time many start in
      let stay = rw (e, long) at (reach shop (front ++ job ∷ []) (next ∷ rest) back (first + many)) in
      let step = rw (e, long) at (down shop (front ++ job ∷ []) next (rest ++ back) first) in
      let further = rw (e, long) at (path back rest (front ++ job ∷ []) next (time + time_of shop job first)) in
      let rest_path = further (omega arith) in
      let rows : suc (length front) + suc (length rest) ≡ length front + suc (suc (length rest)) = omega arith in
      let one = rw rows at stay in
      let two = rw rows at rest_path in
      omega arith

  to_end : (start : ℕ) → IsStart shop [] [] first start → 1 ≤ shop.jobs → (middle : List ℕ) → IsFull shop [] middle []
      → start + passing (On first) (time_on shop first (suc many)) (On (first + many)) middle
      ≤ head_of shop ([] ++ (middle ++ [])) (length {A = ℕ} [] + length middle) (first + many)
  to_end start starts some [] full = let none = full.full in absurd (omega arith)
  to_end start starts some (job ∷ more) full = path [] more [] job start (starts job more full)

  -- a time that each order takes by one of its jobs
  pub by_passing : (time : ℕ) → 1 ≤ shop.jobs
      → ((order : List ℕ) → IsSequence shop.jobs order → length order ≡ shop.jobs
      → time ≤ passing (On first) (time_on shop first (suc many)) (On (first + many)) order)
      → IsThrough shop first (first + many) time
  by_passing time some every start rest starts rests = from_none shop (start + time + rest) (λ middle full.
      let nil : middle ++ [] ≡ middle = append-nil middle in
      let here = every middle (subst (IsSequence shop.jobs) nil full.sequence) (sym (ap length nil) ∙ full.full) in
      let end = to_end start starts some middle full in
      let after = rests middle full in
      omega arith)

pub through_none : (shop : FlowShop) (first second : ℕ) → first < second → 1 ≤ shop.jobs → IsThrough shop first second 0
through_none shop first second later some =
    let there : first + (second - first) ≡ second = omega arith in
    subst (λ m. IsThrough shop first m 0) there
    (by_passing shop first (second - first) 0 some (λ order sequence full. omega arith))

-- the jobs' times on the far machine, or less on the near machine where a job does not pass with `least`
abbrev pub weight : FlowShop → ℕ → ℕ → List ℕ → ℕ → ℕ → ℕ
weight shop near far across least job =
    min (max (time_of shop job near) (get_or across job 0 - least)) (time_of shop job far)

module _ (shop : FlowShop) (near far : ℕ) (across : List ℕ) (least : ℕ) where
  weight_far : (job : ℕ) → weight shop near far across least job ≤ time_of shop job far
  weight_far job = omega arith

  passes_or : (wide : ℕ → ℕ) → ((job : ℕ) → get_or across job 0 ≤ wide job) → (job : ℕ)
      → (least + weight shop near far across least job ≤ wide job)
      ⊎ (weight shop near far across least job ≤ time_of shop job near)
  passes_or wide are job =
      let small : get_or across job 0 ≤ wide job = are job in
      elim (cases_lt (time_of shop job near) (get_or across job 0 - least)) [
        | inl wider ↦ inl (omega arith)
        | inr narrow ↦ inr (omega arith)
      ]

module _ (shop : FlowShop) (across : List ℕ) (job : ℕ) (small : job < shop.jobs) where
  -- by the first of the jobs that pass
  pub through_ahead : (first second least time : ℕ) → first < second → least ≡ get_or across job 0 - time_of shop job second
      → AreAcross shop first (suc (second - first)) across
      → time ≤ least + sum_by (weight shop first second across least) (all_jobs shop.jobs) → IsThrough shop first second time
  through_ahead first second least time later is are short =
      let many : ℕ = second - first in
      let there : first + many ≡ second = omega arith in
      let wide = time_on shop first (suc many) in
      let w = weight shop first second across least in
      let widest : get_or across job 0 ≤ wide job = are job in
      let last = rw there at (last_le shop first many job) in
      let passes : least + w job ≤ wide job = omega arith in
      subst (λ m. IsThrough shop first m time) there (by_passing shop first many time (omega arith) (λ order sequence full.
      let sum = sum_by-order w shop.jobs order sequence full in
      let long = passing_first (On shop first many first) wide (On shop first many second) w least job passes
      (weight_far shop first second across least) (passes_or shop first second across least wide are) order
      (Contains-all shop.jobs job order sequence full small) in
      rw there (omega arith)))

  -- by the last of the jobs that pass
  pub through_behind : (first second least time : ℕ) → first < second → least ≡ get_or across job 0 - time_of shop job first
      → AreAcross shop first (suc (second - first)) across
      → time ≤ least + sum_by (weight shop second first across least) (all_jobs shop.jobs) → IsThrough shop first second time
  through_behind first second least time later is are short =
      let many : ℕ = second - first in
      let there : first + many ≡ second = omega arith in
      let wide = time_on shop first (suc many) in
      let w = weight shop second first across least in
      let widest : get_or across job 0 ≤ wide job = are job in
      let begun = first_le shop first many many job in
      let passes : least + w job ≤ wide job = omega arith in
      subst (λ m. IsThrough shop first m time) there (by_passing shop first many time (omega arith) (λ order sequence full.
      let sum = sum_by-order w shop.jobs order sequence full in
      let long = passing_last (On shop first many first) wide (On shop first many second) w least job passes
      (weight_far shop second first across least) (passes_or shop second first across least wide are) order
      (Contains-all shop.jobs job order sequence full small) in
      rw there (omega arith)))
