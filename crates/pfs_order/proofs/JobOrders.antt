-- The jobs of a text, read one after the other, are an order, or one is the first wrong one.
use Rattle.std.proofs.Common.{◌≡◌, ℕ, ◌+◌, ◌-◌, ◌<◌, ◌≤◌, ◌⊎◌, inl, inr, List, [], ◌∷◌, ◌++◌, length, take, map, get_or}
use Rattle.std.proofs.Common.{Contains, refl, ◌∙◌, ap, arith, eqb, false, drop}
use Rattle.std.specs.Prelude.{Result, Ok, Err, nat_lt, ◌||◌}
use Rattle.std.specs.Cmp.{nat_eq_equiv}
use Rattle.std.specs.List.{list_any}
use Rattle.std.proofs.lemmas.Bool.{cases_Bool, eq-eqb, eqb-true, false_from_ne_true}
use Rattle.std.proofs.lemmas.List.{append-nil, drop_all, drop_more, length-append, length-map, length-take-le}
use Rattle.std.proofs.lemmas.List.{get_or-map, get_or-take}
use Rattle.std.proofs.lemmas.List.{get_or_append_left, map-append, append_assoc, take_at}
use Rattle.std.proofs.Math.Seq.{get_or-append_seam}
use Rattle.std.proofs.lemmas.List.Elements.{All-get_or}
use Rattle.std.proofs.lemmas.Bool.Decides.{nat_tests}
use Rattle.std.proofs.lemmas.Map.Keys.{apart_from_distinct}
use Rattle.std.proofs.lemmas.List.Edits.{insert_end}
use Rattle.std.proofs.lemmas.Map.Views.{Contains-from_any, list_any-from_Contains}
use Rattle.pfs_order.specs.declared.fault.OrderFault.{OrderFault}
use Rattle.pfs_order.specs.declared.fault.OrderFault.TheVariants.{JobRange, Repeated}
use Rattle.pfs_order.specs.Sequence.{Sequence, IsSequence}
use Rattle.pfs_order.specs.OrderFile.{IsRepeated, AreRightBefore, IsJobFault}
use Rattle.pfs_order.specs.Private.Reading.{on_ok, take_job, take_jobs, none_of}
use Rattle.pfs_order.proofs.Published.Sequences.{IsSequence-nil, IsSequence-insert, cases_Contains}

abbrev pub job_added : Sequence → ℕ → Sequence
job_added seq job = record seq { jobs = seq.jobs ++ job ∷ [] }

abbrev pub IsJobNumber : Sequence → ℕ → Type 0
IsJobNumber seq number = (1 ≤ number) × (number ≤ seq.size)

module _ (seq : Sequence) (number : ℕ) where
  pub out_of_range : ¬ IsJobNumber seq number → take_job seq number ≡ Err (JobRange (length seq.jobs + 1))
  unfolding take_job
  out_of_range out = grind (arith, nat_tests)

  pub repeated : IsJobNumber seq number → Contains seq.jobs (number - 1)
      → take_job seq number ≡ Err (Repeated (length seq.jobs + 1))
  unfolding take_job
  repeated (some, few) among =
      let found = list_any-from_Contains nat_eq_equiv (number - 1) seq.jobs among in
      grind (arith, nat_tests)

  pub taken : IsJobNumber seq number → ¬ Contains seq.jobs (number - 1)
      → take_job seq number ≡ Ok (job_added seq (number - 1))
  unfolding take_job
  taken (some, few) absent =
      let none : list_any (eqb (number - 1)) seq.jobs ≡ false =
      false_from_ne_true _ (λ found. absent (Contains-from_any eqb-true (number - 1) seq.jobs found)) in
      grind (arith, nat_tests)

  number_cases : (¬ IsJobNumber seq number) ⊎ ((IsJobNumber seq number × Contains seq.jobs (number - 1))
      ⊎ (IsJobNumber seq number × ¬ Contains seq.jobs (number - 1)))
  number_cases = elim (cases_Bool (nat_lt number 1 || nat_lt seq.size number)) [
    | inl out ↦ inl (λ within. grind (arith, nat_tests))
    | inr among ↦
        let within : IsJobNumber seq number = grind (arith, nat_tests) in
        elim (cases_Contains seq.jobs (number - 1)) [
          | inl there ↦ inr (inl (within, there))
          | inr absent ↦ inr (inr (within, absent))
        ]
  ]

pub taken_size : (seq new : Sequence) (number : ℕ) → take_job seq number ≡ Ok new
    → (new.size ≡ seq.size) × (length new.jobs ≡ length seq.jobs + 1)
unfolding take_job
taken_size seq new number e = grind (arith, nat_tests, length-append)

pub ruleset add_steps = (out_of_range, repeated, taken, insert_end)

-- ---- the code's loop

pub jobs_step : (numbers : List ℕ) (seq : Sequence) (i : ℕ) → i < length numbers → take_jobs (drop i numbers) seq
    ≡ on_ok (take_jobs (drop (i + 1) numbers)) (take_job seq (get_or numbers i 0))
unfolding take_jobs
jobs_step numbers seq i h = rw (drop_more numbers i 0 h) refl

pub taken_all : (numbers : List ℕ) (seq : Sequence) (i : ℕ) → length numbers ≤ i
    → take_jobs (drop i numbers) seq ≡ Ok seq
unfolding take_jobs
taken_all numbers seq i h = rw (drop_all i numbers h) refl

pub ruleset order_steps = (taken_size, jobs_step, taken_all)

-- ---- the jobs of a sequence as the numbers from 1 on

abbrev pub numbered : List ℕ → List ℕ
numbered order = map (λ job. job + 1) order

pub length-numbered : (order : List ℕ) → length (numbered order) ≡ length order
length-numbered order = length-map order (λ (job : ℕ). job + 1)

-- the same, with other numbers after them
module _ (size : ℕ) (order rest : List ℕ) (h : IsSequence size order) where
  abbrev all_numbers : List ℕ
  all_numbers = numbered order ++ rest

  number_at : (i d : ℕ) → i < length order → get_or all_numbers i d ≡ get_or order i 0 + 1
  number_at i d lt = get_or_append_left (numbered order) rest d i (omega (arith, length-numbered order))
      ∙ get_or-map (λ job. job + 1) order i 0 d lt

  pub number_in_range : (i : ℕ) → i < length order → (1 ≤ get_or all_numbers i 0) × (get_or all_numbers i 0 ≤ size)
  number_in_range i lt =
      let small : get_or order i 0 < size = All-get_or (λ job. job < size) order i 0 lt h.in_range in
      let number = number_at i 0 lt in
      (omega arith, omega arith)

  pub number_is_new : (i : ℕ) → i < length order → ¬ IsRepeated all_numbers i
  number_is_new i lt (k, within, same) =
      let job : ℕ = get_or all_numbers i 0 in
      let long = length-append (numbered order) rest in
      let taken : length (take i all_numbers) ≡ i =
      length-take-le i all_numbers (omega (arith, long, length-numbered order)) in
      let before : get_or (take i all_numbers) k job ≡ get_or order k 0 + 1 =
      get_or-take i all_numbers k job (omega arith) ∙ number_at k job (omega arith) in
      let number = number_at i 0 lt in
      let equal = eq-eqb (get_or order k 0) (get_or order i 0) (omega arith) in
      let apart = apart_from_distinct eqb order k i 0 h.distinct (omega arith) lt in
      absurd (cc)

-- ---- the verdict

contains_next : (jobs : List ℕ) (job : ℕ) → Contains jobs job → Contains (numbered jobs) (job + 1)
contains_next jobs job (k, within, at) =
    (k, omega (arith, length-numbered jobs), rw (get_or-map (λ j. j + 1) jobs k job (job + 1) within, at))

-- the verdict on the numbers
abbrev pub ValidatesJobs : List ℕ → Result Sequence OrderFault → Type 0
ValidatesJobs numbers (Ok seq) = IsSequence (length numbers) seq.jobs × (numbers ≡ numbered seq.jobs)
ValidatesJobs numbers (Err fault) = IsJobFault numbers fault

pub validated_from : (rest numbers : List ℕ) (seq : Sequence) → numbers ≡ numbered seq.jobs ++ rest
    → seq.size ≡ length numbers → IsSequence seq.size seq.jobs → ValidatesJobs numbers (take_jobs rest seq)
unfolding take_jobs
validated_from [] numbers seq whole size h = (rw size at h, rw append-nil at whole)
validated_from (n ∷ rest) numbers seq whole size h = elim (number_cases seq n) [
  | inl out ↦ rw (out_of_range seq n out)
      (length seq.jobs, (refl, before, λ job. out (rw (here, ← size) at job)))
  | inr (inl (within, among)) ↦ rw (repeated seq n within among) (
    length seq.jobs,
    (
      refl,
      before,
      rw (here, ← size) within,
      rw (here, front) (rw (number within.0) at
          (contains_next seq.jobs (n - 1) among)),
    ),
  )
  | inr (inr (within, absent)) ↦ rw (taken seq n within absent)
      (validated_from rest numbers (job_added seq (n - 1)) (longer within.0) size
      (rw insert_end at
      (IsSequence-insert seq.size (length seq.jobs) (n - 1) seq.jobs (omega (arith, within.0, within.1))
      absent h)))
]
  where
    number : 1 ≤ n → n - 1 + 1 ≡ n
    number some = omega arith

    longer : 1 ≤ n → numbers ≡ numbered (seq.jobs ++ (n - 1) ∷ []) ++ rest
    longer some =
        let parts = map-append (λ job. job + 1) seq.jobs ((n - 1) ∷ []) in
        rw (parts, number some, append_assoc) whole

    here : get_or numbers (length seq.jobs) 0 ≡ n
    here = rw whole (rw length-numbered at (get_or-append_seam (numbered seq.jobs) n rest 0))

    front : take (length seq.jobs) numbers ≡ numbered seq.jobs
    front = rw whole (take_at (numbered seq.jobs) (n ∷ rest) (length seq.jobs) (length-numbered seq.jobs))

    before : AreRightBefore numbers (length seq.jobs)
    before = record {
      within = omega (arith, ap length whole, length-append (numbered seq.jobs) (n ∷ rest), length-numbered seq.jobs);
      in_range = λ k lt. rw (← whole, size) at (number_in_range seq.size seq.jobs (n ∷ rest) h k lt);
      distinct = λ k lt. rw (← whole) at (number_is_new seq.size seq.jobs (n ∷ rest) h k lt);
    }

pub jobs_validated : (numbers : List ℕ) → ValidatesJobs numbers (take_jobs numbers (none_of (length numbers)))
jobs_validated numbers =
    validated_from numbers numbers (none_of (length numbers)) refl refl (IsSequence-nil (length numbers))
