-- The place of a job among those that may move, and the list without this job.
use Rattle.std.proofs.Common.{◌≡◌, ℕ, zero, suc, ◌<◌, Bool, true, false, not, List, [], ◌∷◌, length, get_or, filter, remove}
use Rattle.std.proofs.Common.{inl, inr, arith, refl, ap}
use Rattle.std.proofs.lemmas.Bool.{cases_Bool}
use Rattle.pfs_iterate.specs.Iterated.{is_free, place_among}

-- a place has the job with this number among those that may move
pub record IsAmong (free : ℕ → Bool) (jobs : List ℕ) (number place : ℕ) : Type 0 where
  pub within : place < length jobs
  pub at : get_or jobs place 0 ≡ get_or (filter free jobs) number 0
  pub gone : filter free (remove jobs place) ≡ remove (filter free jobs) number
  pub others : filter (λ job. not (free job)) (remove jobs place) ≡ filter (λ job. not (free job)) jobs

module _ (free : ℕ → Bool) (job : ℕ) (jobs : List ℕ) where
  first : free job ≡ true → IsAmong free (job ∷ jobs) 0 0
  first here = record { within = omega arith; at = rw here refl; gone = rw here refl; others = rw here refl }

  after_free : (number place : ℕ) → free job ≡ true → IsAmong free jobs number place
      → IsAmong free (job ∷ jobs) (suc number) (suc place)
  after_free number place here rest = record {
    within = omega (arith, rest.within);
    at = rw here rest.at;
    gone = rw (here, rest.gone) refl;
    others = rw (here, rest.others) refl;
  }

  after_other : (number place : ℕ) → free job ≡ false → IsAmong free jobs number place
      → IsAmong free (job ∷ jobs) number (suc place)
  after_other number place other rest = record {
    within = omega (arith, rest.within);
    at = rw other rest.at;
    gone = rw (other, rest.gone) refl;
    others = rw (other, rest.others) refl;
  }

pub is_among : (free : ℕ → Bool) (jobs : List ℕ) (number : ℕ) → number < length (filter free jobs)
    → IsAmong free jobs number (place_among free jobs number)
is_among free [] number some = absurd (omega (arith, some))
is_among free (job ∷ jobs) zero some =
    elim (cases_Bool (free job)) [
      | inl here ↦ rw here (first free job jobs here)
      | inr other ↦ rw other (after_other free job jobs 0 (place_among free jobs 0) other (is_among free jobs 0 (rw other at some)))
    ]
is_among free (job ∷ jobs) (suc number) some =
    elim (cases_Bool (free job)) [
      | inl here ↦ rw here (after_free free job jobs number (place_among free jobs number) here
          (is_among free jobs number (omega (arith, rw here at some))))
      | inr other ↦ rw other (after_other free job jobs (suc number) (place_among free jobs (suc number)) other
          (is_among free jobs (suc number) (rw other at some)))
    ]

-- where no job has a mark all may move
pub all_free : (jobs : List ℕ) → filter (is_free []) jobs ≡ jobs
all_free [] = refl
all_free (job ∷ jobs) = ap (λ rest. job ∷ rest) (all_free jobs)

pub among_all : (jobs : List ℕ) (number : ℕ) → place_among (is_free []) jobs number ≡ number
among_all [] number = refl
among_all (job ∷ jobs) zero = refl
among_all (job ∷ jobs) (suc number) = ap suc (among_all jobs number)
