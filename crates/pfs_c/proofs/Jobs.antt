-- Lists of jobs that are validated from the left.
use Rattle.std.proofs.Common.{◌≡◌, ◌↔◌, ℕ, zero, suc, ◌+◌, ◌<◌, ◌≤◌, ◌++◌, refl, false, List, [], ◌∷◌}
use Rattle.std.proofs.Common.{length, take, drop, map, get_or, nat_eq, Contains, ◌∙◌, sym, ap, inl, inr, arith}
use Rattle.std.proofs.Common.{Option, Some, None, zero-add, append_assoc, Result, IsOk}
use Rattle.std.specs.List.{list_any}
use Rattle.std.specs.Option.{option_or}
use Rattle.std.specs.Cmp.{nat_eq_equiv}
use Rattle.std.proofs.lemmas.Bool.{eqb-true, lt-ltb, le-ltb, false_from_ne_true, cases_lt}
use Rattle.std.proofs.lemmas.List.{append-nil, get_or_at, get_or_append_left, length-append, map-append, take_at}
use Rattle.std.proofs.lemmas.List.{take-append-drop, take-append-le, take_more}
use Rattle.std.proofs.lemmas.List.Sorted.{IsPermutation-append_comm}
use Rattle.std.proofs.lemmas.Map.Views.{Contains-from_any, list_any-from_Contains}
use Rattle.pfs_base.specs.Lists.{below, first_some}
use Rattle.pfs_base.proofs.Published.Lists.{by_push, first_some-append, range_with_len-push, map-range_with_len-same}
use Rattle.pfs_order.specs.Sequence.{IsSequence}
use Rattle.pfs_order.proofs.Published.Sequences.{IsSequence-nil, IsSequence-cons, IsSequence-first, IsSequence-head}
use Rattle.pfs_order.proofs.Published.Sequences.{IsSequence-permutation, IsSequence-rest, length-le-size}
use Rattle.pfs_c.specs.declared.numbers.CallFault.{CallFault}
use Rattle.pfs_c.specs.declared.numbers.CallFault.TheVariants.{Job, Repeated}
use Rattle.pfs_c.specs.Private.Outcomes.{Validates}
use Rattle.pfs_c.specs.Validation.{job_fault, place_fault, jobs_fault}

-- ---- the first fault of checks that are numbered from 0

pub first_none : (x : Option CallFault) (xs : List (Option CallFault)) → first_some (x ∷ xs) ≡ None
    → (x ≡ None) × (first_some xs ≡ None)
first_none None xs h = (refl, h)
first_none (Some why) xs h = absurd (cc)

two : (x y : Option CallFault) → option_or x (first_some (y ∷ [])) ≡ first_some (x ∷ y ∷ [])
two None y = refl
two (Some why) y = refl

below_more : (f : ℕ → Option CallFault) (count : ℕ)
    → first_some (map f (below (suc count))) ≡ first_some (first_some (map f (below count)) ∷ f count ∷ [])
below_more f count =
    ap (λ xs. first_some (map f xs)) (range_with_len-push 0 count)
    ∙ rw (
      zero-add count,
      map-append f (below count) (count ∷ []),
      first_some-append (map f (below count)) (f count ∷ []),
    ) (two (first_some (map f (below count))) (f count))

pub none_below : (f : ℕ → Option CallFault) (count : ℕ) → ((j : ℕ) → j < count → f j ≡ None)
    → first_some (map f (below count)) ≡ None
none_below f zero none = refl
none_below f (suc count) none =
    below_more f count ∙ rw (none_below f count (λ j lt. none j (omega arith)), none count (omega arith)) refl

pub first_below : (f : ℕ → Option CallFault) (count k : ℕ) (why : CallFault) → k < count
    → ((j : ℕ) → j < k → f j ≡ None) → f k ≡ Some why → first_some (map f (below count)) ≡ Some why
first_below f zero k why within none there = absurd (omega arith)
first_below f (suc count) k why within none there = below_more f count ∙ elim (cases_lt k count) [
  | inl earlier ↦ rw (first_below f count k why earlier none there) refl
  | inr last ↦ let same : k ≡ count = omega arith in rw (none_below f count (rw same at none), rw same at there) refl
]

pub few_jobs : (size : ℕ) (jobs : List ℕ) → IsSequence size jobs → length jobs ≤ size
few_jobs = length-le-size

-- ---- sequences with one more job

pub joined : (size : ℕ) (jobs more : List ℕ) → IsSequence size (jobs ++ more) → IsSequence size (more ++ jobs)
joined size jobs more = IsSequence-permutation size (jobs ++ more) (more ++ jobs) (IsPermutation-append_comm jobs more)

pub absent_any : (jobs : List ℕ) (job : ℕ) → (Contains jobs job → ⊥) → list_any (nat_eq job) jobs ≡ false
absent_any jobs job absent =
    false_from_ne_true (list_any (nat_eq job) jobs) (λ found. absent (Contains-from_any eqb-true job jobs found))

-- ---- a job after others

pub job_out : (size job : ℕ) (others : List ℕ) → size ≤ job → job_fault size others job ≡ Some Job
job_out size job others h = rw (le-ltb job size h) refl

pub job_twice : (size job : ℕ) (others : List ℕ) → job < size → Contains others job
    → job_fault size others job ≡ Some Repeated
job_twice size job others small among =
    rw (lt-ltb job size small, list_any-from_Contains nat_eq_equiv job others among) refl

-- there is no fault exactly if the job is one more of a sequence
job_right : (size job : ℕ) (others : List ℕ) → IsSequence size others
    → (job_fault size others job ≡ None) ↔ IsSequence size (job ∷ others)
job_right size job others h = (
  λ none. elim (cases_lt job size) [
    | inl small ↦ IsSequence-cons size job others small
        (λ among. absurd (let twice = job_twice size job others small among in cc)) h
    | inr great ↦ absurd (let out = job_out size job others great in cc)
  ],
  λ sequence. rw (
    lt-ltb job size (IsSequence-first size job others sequence),
    absent_any others job (IsSequence-head size job others sequence),
  ) refl,
)

-- ---- a list of jobs

pub jobs_more : (size : ℕ) (jobs : List ℕ) (job : ℕ)
    → jobs_fault size (jobs ++ job ∷ []) ≡ first_some (jobs_fault size jobs ∷ job_fault size jobs job ∷ [])
jobs_more size jobs job =
    let all : List ℕ = jobs ++ job ∷ [] in
    let long : length all ≡ suc (length jobs) = omega (arith, length-append {A = ℕ}) in
    let before : map (place_fault size all) (below (length jobs)) ≡ map (place_fault size jobs) (below (length jobs)) =
    map-range_with_len-same (place_fault size all) (place_fault size jobs) 0 (length jobs) (λ i low lt.
    rw (take-append-le i jobs (job ∷ []) (omega arith), get_or_append_left jobs (job ∷ []) 0 i (omega arith)) refl) in
    rw (
      long,
      below_more (place_fault size all) (length jobs),
      before,
      take_at jobs (job ∷ []) (length jobs) refl,
      get_or_at jobs job [] 0 (length jobs) refl,
    ) refl

-- a fault of the first jobs is that of all
pub jobs_all : (size : ℕ) (front rest : List ℕ) (why : CallFault) → jobs_fault size front ≡ Some why
    → jobs_fault size (front ++ rest) ≡ Some why
jobs_all size front [] why wrong = rw (append-nil front) wrong
jobs_all size front (job ∷ rest) why wrong =
    rw (← append_assoc front (job ∷ []) rest)
    (jobs_all size (front ++ job ∷ []) rest why (rw (jobs_more size front job, wrong) refl))

-- there is no fault exactly if the list is a sequence
pub jobs_right : (size : ℕ) (jobs : List ℕ) → (jobs_fault size jobs ≡ None) ↔ IsSequence size jobs
jobs_right size = by_push (λ jobs. (jobs_fault size jobs ≡ None) ↔ IsSequence size jobs)
    (λ h. IsSequence-nil size, λ h. refl)
    (λ jobs job is. (
      λ none.
          let parts = first_none _ _ (sym (jobs_more size jobs job) ∙ none) in
          let part = first_none _ [] parts.1 in
          joined size (job ∷ []) jobs ((job_right size job jobs (is.0 parts.0)).0 part.0),
      λ sequence.
          let turned = joined size jobs (job ∷ []) sequence in
          let rest = IsSequence-rest size job jobs turned in
          rw (jobs_more size jobs job, is.1 rest, (job_right size job jobs rest).1 turned) refl,
    ))

-- the same for a sequence and a job to insert
pub insertion_right : (size job : ℕ) (jobs : List ℕ)
    → (first_some (jobs_fault size jobs ∷ job_fault size jobs job ∷ []) ≡ None) ↔ IsSequence size (job ∷ jobs)
insertion_right size job jobs =
    let is = jobs_right size (jobs ++ job ∷ []) in (
      λ none. joined size jobs (job ∷ []) (is.0 (jobs_more size jobs job ∙ none)),
      λ sequence. sym (jobs_more size jobs job) ∙ is.1 (joined size (job ∷ []) jobs sequence),
    )

-- ---- jobs that follow those of a sequence

module _ (size : ℕ) (first more : List ℕ) (place : ℕ) (within : place < length more)
    (before : IsSequence size (first ++ take place more)) where
  abbrev pub here : ℕ
  here = get_or more place 0

  abbrev pub old : List ℕ
  old = first ++ take place more

  with_here : first ++ take (place + 1) more ≡ old ++ (here ∷ [])
  with_here = rw (take_more more place 0 within, append_assoc) refl

  pub more_wrong : (why : CallFault) → job_fault size old here ≡ Some why → jobs_fault size (first ++ more) ≡ Some why
  more_wrong why wrong =
      let front : jobs_fault size (first ++ take (place + 1) more) ≡ Some why =
      rw (with_here, jobs_more size old here, (jobs_right size old).1 before, wrong) refl in
      rw (append_assoc, take-append-drop (place + 1) more) at
      (jobs_all size (first ++ take (place + 1) more) (drop (place + 1) more) why front)

  pub more_right : here < size → (Contains old here → ⊥) → IsSequence size (first ++ take (place + 1) more)
  more_right small absent =
      rw with_here (joined size (here ∷ []) old (IsSequence-cons size here old small absent before))

-- ---- what the result of a check says

pub valid_is : (result : Result (Unit {0}) CallFault) (fault : Option CallFault) → Validates result fault
    → IsOk result ↔ (fault ≡ None)
valid_is result None ok = (λ _. refl, λ _. ok)
valid_is result (Some why) wrong = (λ ok. absurd (let e = rw wrong at ok in cc), λ none. absurd (cc))
