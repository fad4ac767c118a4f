-- How many jobs that may move come before each job that stays.
use Rattle.std.proofs.Common.{◌≡◌, ℕ, zero, suc, ◌+◌, ◌-◌, ◌<◌, Bool, true, false, List, [], ◌∷◌, ◌++◌, length, get_or, take, remove}
use Rattle.std.proofs.Common.{inl, inr, append-nil, arith, refl, sym, ap, ◌∙◌}
use Rattle.std.specs.Prelude.{filter, map, nat_le}
use Rattle.std.proofs.lemmas.Bool.{cases_Bool, cases_lt, le-leb, lt-leb}
use Rattle.std.proofs.lemmas.List.{length-append, map-append, take_more}
use Rattle.std.proofs.lemmas.List.Elements.{filter-append}
use Rattle.pfs_iterate.specs.Iterated.{is_free, place_among}
use Rattle.pfs_iterate.specs.Private.Steps.{before, lowered, ranks_of, ranks_without}

-- ---- of one more job

module _ (free : ℕ → Bool) (job : ℕ) where
  pub ranks_free : (jobs : List ℕ) → free job ≡ true → ranks_of free (jobs ++ job ∷ []) ≡ ranks_of free jobs
  ranks_free [] here = rw here refl
  ranks_free (first ∷ jobs) here =
      elim (cases_Bool (free first)) [
        | inl is ↦ rw (is, ranks_free jobs here) refl
        | inr not ↦ rw (not, ranks_free jobs here) refl
      ]

  pub count_free : (jobs : List ℕ) → free job ≡ true
      → length (filter free (jobs ++ job ∷ [])) ≡ length (filter free jobs) + 1
  count_free jobs here = rw (filter-append free jobs (job ∷ []), here) (length-append (filter free jobs) (job ∷ []))

  pub count_other : (jobs : List ℕ) → free job ≡ false
      → length (filter free (jobs ++ job ∷ [])) ≡ length (filter free jobs)
  count_other jobs other = rw (filter-append free jobs (job ∷ []), other, append-nil) refl

  pub ranks_other : (jobs : List ℕ) → free job ≡ false
      → ranks_of free (jobs ++ job ∷ []) ≡ ranks_of free jobs ++ length (filter free jobs) ∷ []
  ranks_other [] other = rw other refl
  ranks_other (first ∷ jobs) other =
      elim (cases_Bool (free first)) [
        | inl is ↦ rw (is, ranks_other jobs other) (map-append suc (ranks_of free jobs) (length (filter free jobs) ∷ []))
        | inr not ↦ rw (not, ranks_other jobs other) refl
      ]

-- where no job has a mark none stays
pub ranks_none : (jobs : List ℕ) → ranks_of (is_free []) jobs ≡ []
ranks_none [] = refl
ranks_none (job ∷ jobs) = ap (map suc) (ranks_none jobs)

-- ---- of a number, and of the next one where one more job that may move comes first

before_first : (list : List ℕ) → before 0 (map suc list) ≡ 0
before_first [] = refl
before_first (rank ∷ list) = rw (lt-leb (suc rank) 0 (omega arith)) (before_first list)

before_next : (number : ℕ) (list : List ℕ) → before (suc number) (map suc list) ≡ before number list
before_next number [] = refl
before_next number (rank ∷ list) =
    elim (cases_lt number rank) [
      | inl more ↦ rw (lt-leb (suc rank) (suc number) (omega arith), lt-leb rank number more) (before_next number list)
      | inr less ↦ rw (le-leb (suc rank) (suc number) (omega arith), le-leb rank number less)
          (ap suc (before_next number list))
    ]

without_first : (list : List ℕ) → ranks_without 0 (map suc list) ≡ list
without_first [] = refl
without_first (rank ∷ list) =
    let lower : suc rank - 1 ≡ rank = omega arith in
    rw (lt-leb (suc rank) 0 (omega arith), lower, without_first list) refl

without_next : (number : ℕ) (list : List ℕ)
    → ranks_without (suc number) (map suc list) ≡ map suc (ranks_without number list)
without_next number [] = refl
without_next number (rank ∷ list) =
    elim (cases_lt number rank) [
      | inl more ↦
          let lower : suc rank - 1 ≡ suc (rank - 1) = omega arith in
          rw (lt-leb (suc rank) (suc number) (omega arith), lt-leb rank number more, lower, without_next number list) refl
      | inr less ↦
          rw (le-leb (suc rank) (suc number) (omega arith), le-leb rank number less, without_next number list) refl
    ]

-- ---- the place of a number, and the ranks without it

module _ (free : ℕ → Bool) where
  pub place_by_ranks : (jobs : List ℕ) (number : ℕ) → number < length (filter free jobs)
      → place_among free jobs number ≡ number + before number (ranks_of free jobs)
  place_by_ranks [] number some = absurd (omega (arith, some))
  place_by_ranks (job ∷ jobs) zero some =
      elim (cases_Bool (free job)) [
        | inl here ↦ rw (here, before_first (ranks_of free jobs)) refl
        | inr other ↦ rw other (omega (arith, place_by_ranks jobs 0 (rw other at some)))
      ]
  place_by_ranks (job ∷ jobs) (suc number) some =
      elim (cases_Bool (free job)) [
        | inl here ↦ rw (here, before_next number (ranks_of free jobs))
            (omega (arith, place_by_ranks jobs number (omega (arith, rw here at some))))
        | inr other ↦ rw other (rw (le-leb 0 (suc number) (omega arith))
            (omega (arith, place_by_ranks jobs (suc number) (rw other at some))))
      ]

  module _ (job : ℕ) (jobs : List ℕ) where
    all_free : free job ≡ true → ranks_of free (job ∷ jobs) ≡ map suc (ranks_of free jobs)
    all_free here = rw here refl

    all_other : free job ≡ false → ranks_of free (job ∷ jobs) ≡ 0 ∷ ranks_of free jobs
    all_other other = rw other refl

    left_free : (place : ℕ) → free job ≡ true
        → ranks_of free (remove (job ∷ jobs) (suc place)) ≡ map suc (ranks_of free (remove jobs place))
    left_free place here = rw here refl

    left_other : (place : ℕ) → free job ≡ false
        → ranks_of free (remove (job ∷ jobs) (suc place)) ≡ 0 ∷ ranks_of free (remove jobs place)
    left_other place other = rw other refl

    first_place : free job ≡ true → place_among free (job ∷ jobs) 0 ≡ 0
    first_place here = rw here refl

    next_place : (number : ℕ) → free job ≡ true
        → place_among free (job ∷ jobs) (suc number) ≡ suc (place_among free jobs number)
    next_place number here = rw here refl

    zero_later : free job ≡ false → place_among free (job ∷ jobs) 0 ≡ suc (place_among free jobs 0)
    zero_later other = rw other refl

    suc_later : (number : ℕ) → free job ≡ false
        → place_among free (job ∷ jobs) (suc number) ≡ suc (place_among free jobs (suc number))
    suc_later number other = rw other refl

    abbrev left : ℕ → List ℕ
    left place = ranks_of free (remove (job ∷ jobs) place)

  stay_first : (number : ℕ) (list : List ℕ) → 0 ∷ ranks_without number list ≡ ranks_without number (0 ∷ list)
  stay_first number list = rw (le-leb 0 number (omega arith)) refl

  pub ranks_removed : (jobs : List ℕ) (number : ℕ) → number < length (filter free jobs)
      → ranks_of free (remove jobs (place_among free jobs number)) ≡ ranks_without number (ranks_of free jobs)
  ranks_removed [] number some = absurd (omega (arith, some))
  ranks_removed (job ∷ jobs) zero some =
      elim (cases_Bool (free job)) [
        | inl here ↦ ap (left job jobs) (first_place job jobs here)
            ∙ sym (without_first (ranks_of free jobs)) ∙ ap (ranks_without 0) (sym (all_free job jobs here))
        | inr other ↦ ap (left job jobs) (zero_later job jobs other)
            ∙ left_other job jobs (place_among free jobs 0) other
            ∙ ap (λ list. 0 ∷ list) (ranks_removed jobs 0 (rw other at some))
            ∙ stay_first 0 (ranks_of free jobs) ∙ ap (ranks_without 0) (sym (all_other job jobs other))
      ]
  ranks_removed (job ∷ jobs) (suc number) some =
      elim (cases_Bool (free job)) [
        | inl here ↦ ap (left job jobs) (next_place job jobs number here)
            ∙ left_free job jobs (place_among free jobs number) here
            ∙ ap (map suc) (ranks_removed jobs number (omega (arith, rw here at some)))
            ∙ sym (without_next number (ranks_of free jobs))
            ∙ ap (ranks_without (suc number)) (sym (all_free job jobs here))
        | inr other ↦ ap (left job jobs) (suc_later job jobs number other)
            ∙ left_other job jobs (place_among free jobs (suc number)) other
            ∙ ap (λ list. 0 ∷ list) (ranks_removed jobs (suc number) (rw other at some))
            ∙ stay_first (suc number) (ranks_of free jobs)
            ∙ ap (ranks_without (suc number)) (sym (all_other job jobs other))
      ]

-- ---- one rank more

pub before_more : (number i : ℕ) (list : List ℕ) → i < length list
    → before number (take (i + 1) list) ≡ before number (take i list) + before number (get_or list i 0 ∷ [])
before_more number i list small =
    rw (take_more list i 0 small, filter-append (λ rank. nat_le rank number) (take i list) (get_or list i 0 ∷ []))
    (length-append (filter (λ rank. nat_le rank number) (take i list)) _)

pub without_more : (number i : ℕ) (list : List ℕ) → i < length list
    → ranks_without number (take (i + 1) list)
    ≡ ranks_without number (take i list) ++ lowered number (get_or list i 0) ∷ []
without_more number i list small = rw (take_more list i 0 small)
    (map-append (lowered number) (take i list) (get_or list i 0 ∷ []))
