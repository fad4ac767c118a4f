-- Sequences under edits.
use Rattle.std.proofs.Common.{◌≡◌, ℕ, zero, suc, ◌+◌, ◌<◌, ◌≤◌, ◌++◌, refl, List, [], ◌∷◌, length, filter, not}
use Rattle.std.proofs.Common.{inl, inr, ◌⊎◌, Contains, eqb, false, insert, remove, get_or, sym, ◌∙◌, arith}
use Rattle.std.specs.List.{IsDistinct, list_any, range_with_len}
use Rattle.std.specs.List.Sorted.{IsPermutation}
use Rattle.std.specs.Cmp.{nat_eq_equiv}
use Rattle.std.proofs.lemmas.Bool.{cases_Bool, ne_eqb, eq-eqb, eqb-true, eqb-false}
use Rattle.std.proofs.lemmas.Bool.Decides.{nat_tests}
use Rattle.std.proofs.lemmas.List.{get_or_default, map-id}
use Rattle.std.proofs.lemmas.List.Edits.{insert_end}
use Rattle.std.proofs.lemmas.List.Elements.{All-nil, All-cons, All-head, All-tail, All-from_recursion, All-contains}
use Rattle.std.proofs.lemmas.List.Elements.{recursion_from_All}
use Rattle.std.proofs.lemmas.List.FromFn.{length-range_with_len, get_or-range_with_len, map-range_with_len_more}
use Rattle.std.proofs.lemmas.List.Sorted.{IsPermutation-insert, IsPermutation-remove, IsPermutation-trans}
use Rattle.std.proofs.lemmas.List.Sorted.{IsPermutation-cons, IsPermutation-append_comm, IsPermutation-append_right}
use Rattle.std.proofs.lemmas.List.Sorted.{All-permutation}
use Rattle.std.proofs.lemmas.Map.Keys.{IsDistinct-IsPermutation, IsDistinct-cons, IsDistinct-head, IsDistinct-tail}
use Rattle.std.proofs.lemmas.Map.Steps.{length-le_from_distinct_below}
use Rattle.std.proofs.lemmas.Map.Views.{Contains-from_any, list_any-from_Contains}
use Rattle.pfs_order.specs.Sequence.{IsSequence, all_jobs}

-- ---- a sequence from its parts, and its parts

pub IsSequence-nil : (size : ℕ) → IsSequence size []
unfolding IsDistinct
IsSequence-nil size = record { in_range = All-nil (λ job. job < size); distinct = tt }

pub IsSequence-cons : (size job : ℕ) (jobs : List ℕ) → job < size → (Contains jobs job → ⊥) → IsSequence size jobs
    → IsSequence size (job ∷ jobs)
IsSequence-cons size job jobs small absent h =
    let others = recursion_from_All (λ j. eqb job j ≡ false) jobs (λ k d lt.
    ne_eqb job (get_or jobs k d) (λ same. absent (k, lt, get_or_default jobs k job d lt ∙ sym same))) in
    record {
      in_range = All-cons (λ j. j < size) job jobs small h.in_range;
      distinct = IsDistinct-cons eqb job jobs others h.distinct;
    }

-- the first job is not among the others
pub IsSequence-head : (size job : ℕ) (jobs : List ℕ) → IsSequence size (job ∷ jobs) → Contains jobs job → ⊥
IsSequence-head size job jobs h (k, within, at) =
    let others = All-from_recursion (λ j. eqb job j ≡ false) jobs (IsDistinct-head eqb job jobs h.distinct) in
    eqb-false job (get_or jobs k job) (others k job within) (sym at)

pub IsSequence-first : (size job : ℕ) (jobs : List ℕ) → IsSequence size (job ∷ jobs) → job < size
IsSequence-first size job jobs h = All-head (λ j. j < size) job jobs h.in_range

pub IsSequence-rest : (size job : ℕ) (jobs : List ℕ) → IsSequence size (job ∷ jobs) → IsSequence size jobs
IsSequence-rest size job jobs h = record {
  in_range = All-tail (λ j. j < size) job jobs h.in_range;
  distinct = IsDistinct-tail eqb job jobs h.distinct;
}

-- ---- a sequence in another order, with one more or one fewer job

pub IsSequence-permutation : (size : ℕ) (jobs others : List ℕ) → IsPermutation jobs others → IsSequence size jobs
    → IsSequence size others
IsSequence-permutation size jobs others moved h = record {
  in_range = All-permutation (λ j. j < size) jobs others moved h.in_range;
  distinct = IsDistinct-IsPermutation eqb (λ x y. grind (arith, nat_tests)) jobs others moved h.distinct;
}

pub IsSequence-insert : (size place job : ℕ) (jobs : List ℕ) → job < size → (Contains jobs job → ⊥)
    → IsSequence size jobs → IsSequence size (insert jobs place job)
IsSequence-insert size place job jobs small absent h =
    IsSequence-permutation size (job ∷ jobs) (insert jobs place job) (IsPermutation-insert jobs place job)
    (IsSequence-cons size job jobs small absent h)

-- a sequence whose job at a place is moved to the front
taken_first : (size place job : ℕ) (jobs : List ℕ) → place < length jobs → job ≡ get_or jobs place job
    → IsSequence size jobs → IsSequence size (job ∷ remove jobs place)
taken_first size place job jobs within at =
    IsSequence-permutation size jobs (job ∷ remove jobs place) (IsPermutation-remove jobs place job within at)

pub IsSequence-remove : (size place job : ℕ) (jobs : List ℕ) → place < length jobs → job ≡ get_or jobs place job
    → IsSequence size jobs → IsSequence size (remove jobs place)
IsSequence-remove size place job jobs within at h =
    IsSequence-rest size job (remove jobs place) (taken_first size place job jobs within at h)

-- a first job that is moved to a place among the last ones
pub IsSequence-moved : (size job place : ℕ) (rest jobs : List ℕ) → IsSequence size (job ∷ (rest ++ jobs))
    → IsSequence size (rest ++ insert jobs place job)
IsSequence-moved size job place rest jobs =
    IsSequence-permutation size (job ∷ (rest ++ jobs)) (rest ++ insert jobs place job)
    (IsPermutation-trans (job ∷ (rest ++ jobs)) ((job ∷ jobs) ++ rest) (rest ++ insert jobs place job)
    (IsPermutation-cons job (rest ++ jobs) (jobs ++ rest) (IsPermutation-append_comm rest jobs))
    (IsPermutation-trans ((job ∷ jobs) ++ rest) (rest ++ (job ∷ jobs)) (rest ++ insert jobs place job)
    (IsPermutation-append_comm (job ∷ jobs) rest)
    (IsPermutation-append_right rest (job ∷ jobs) (insert jobs place job) (IsPermutation-insert jobs place job))))

-- ---- the number of jobs

-- a sequence has at most `size` jobs
pub length-le-size : (size : ℕ) (jobs : List ℕ) → IsSequence size jobs → length jobs ≤ size
length-le-size size jobs h = length-le_from_distinct_below jobs size h.distinct
    (λ job among. All-contains (λ j. j < size) jobs job h.in_range (Contains-from_any eqb-true job jobs among))

pub ruleset size_limit = (length-le-size)

-- it has fewer if a job is absent
pub length-lt-size : (size job : ℕ) (jobs : List ℕ) → job < size → (Contains jobs job → ⊥) → IsSequence size jobs
    → length jobs < size
length-lt-size size job jobs small absent h =
    length-le-size size (job ∷ jobs) (IsSequence-cons size job jobs small absent h)

pub cases_Contains : (jobs : List ℕ) (job : ℕ) → Contains jobs job ⊎ (Contains jobs job → ⊥)
cases_Contains jobs job = elim (cases_Bool (list_any (eqb job) jobs)) [
  | inl found ↦ inl (Contains-from_any eqb-true job jobs found)
  | inr none ↦ inr (λ among. let found = list_any-from_Contains nat_eq_equiv job jobs among in absurd (cc))
]

-- a full sequence contains each job
pub Contains-all : (size job : ℕ) (jobs : List ℕ) → IsSequence size jobs → length jobs ≡ size → job < size
    → Contains jobs job
Contains-all size job jobs h full small = elim (cases_Contains jobs job) [
  | inl among ↦ among
  | inr absent ↦ let fewer = length-lt-size size job jobs small absent h in absurd (omega arith)
]

-- ---- all jobs, in the order of their numbers

pub length-all_jobs : (n : ℕ) → length (all_jobs n) ≡ n
length-all_jobs n = length-range_with_len 0 n

pub all_jobs_more : (n : ℕ) → all_jobs (n + 1) ≡ all_jobs n ++ n ∷ []
all_jobs_more n = rw (map-id (range_with_len 0 (n + 1)), map-id (range_with_len 0 n)) at
    (map-range_with_len_more (λ x. x) 0 n n (omega arith))

pub insert-all_jobs : (n : ℕ) → insert (all_jobs n) n n ≡ all_jobs (n + 1)
insert-all_jobs n = rw (length-all_jobs n, ← all_jobs_more n) at (insert_end (all_jobs n) n)

pub absent-all_jobs : (n : ℕ) → Contains (all_jobs n) n → ⊥
absent-all_jobs n (k, within, at) =
    let small : k < n = omega (arith, length-all_jobs n) in
    let is = get_or-range_with_len 0 n k n small in
    absurd (omega arith)

pub ruleset all_jobs_steps = (length-all_jobs, insert-all_jobs)

-- ---- a job that is removed and inserted again

-- without an absent job, all jobs are left
pub others-absent : (job : ℕ) (jobs : List ℕ) → (Contains jobs job → ⊥) → filter (λ other. not (eqb other job)) jobs ≡ jobs
others-absent job [] absent = refl
others-absent job (first ∷ jobs) absent =
    let apart = ne_eqb first job (λ same. absent (0, omega arith, same)) in
    let rest = others-absent job jobs (λ h. absent (suc h.0, omega (arith, h.1), h.2)) in
    rw (apart, rest)

-- the jobs other than one are those that are left when it is removed
pub others_are : (size place job : ℕ) (jobs : List ℕ) → IsSequence size jobs → place < length jobs
    → job ≡ get_or jobs place 0 → filter (λ other. not (eqb other job)) jobs ≡ remove jobs place
others_are size place job [] h within at = absurd (omega arith)
others_are size zero job (first ∷ jobs) h within at =
    rw (eq-eqb first job (sym at)) (others-absent job jobs (rw at (IsSequence-head size first jobs h)))
others_are size (suc place) job (first ∷ jobs) h within at =
    let short : place < length jobs = omega arith in
    let there : (same : first ≡ job) → Contains jobs first =
    λ same. (place, short, get_or_default jobs place first 0 short ∙ sym at ∙ sym same) in
    let apart = ne_eqb first job (λ same. IsSequence-head size first jobs h (there same)) in
    rw (apart, others_are size place job jobs (IsSequence-rest size first jobs h) short at)

-- inserted again at its place, a job gives the sequence as before
pub insert-remove : (place job : ℕ) (jobs : List ℕ) → place < length jobs → job ≡ get_or jobs place 0
    → insert (remove jobs place) place job ≡ jobs
insert-remove place job [] within at = absurd (omega arith)
insert-remove zero job (first ∷ jobs) within at = rw at
insert-remove (suc place) job (first ∷ jobs) within at = rw (insert-remove place job jobs (omega arith) at)

-- a sequence does not contain a job that is removed from it
pub absent-remove : (size place job : ℕ) (jobs : List ℕ) → IsSequence size jobs → place < length jobs
    → job ≡ get_or jobs place 0 → Contains (remove jobs place) job → ⊥
absent-remove size place job jobs h within at =
    let here = at ∙ get_or_default jobs place 0 job within in
    IsSequence-head size job (remove jobs place) (taken_first size place job jobs within here h)
