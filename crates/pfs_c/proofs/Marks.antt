-- Jobs that are marked in a loop without branches.
use Rattle.std.proofs.Common.{◌≡◌, ◌↔◌, ℕ, ◌+◌, ◌<◌, ◌≤◌, Bool, true, false, List, [], ◌∷◌, length, take}
use Rattle.std.proofs.Common.{get_or, nat_eq, set, All, Contains, ◌||◌, sym, ◌∙◌, inl, inr, refl, arith, length-set}
use Rattle.std.proofs.Math.Bool.{or-false, or-true}
use Rattle.std.specs.List.{list_any}
use Rattle.std.specs.Cmp.{nat_eq_equiv}
use Rattle.std.proofs.lemmas.Bool.{cases_Bool, eqb-true, eqb-false, or_parts, or_from}
use Rattle.std.proofs.lemmas.Bool.{cases_lt}
use Rattle.std.proofs.lemmas.Grind.{get_or-set_at}
use Rattle.std.proofs.lemmas.List.{get_or_past, get_or-set_other, take_all, take_more}
use Rattle.std.proofs.lemmas.List.Elements.{All-contains}
use Rattle.std.proofs.lemmas.List.Folds.{list_any-append}
use Rattle.std.proofs.lemmas.Map.Views.{Contains-from_any, list_any-from_Contains}
use Rattle.pfs_order.specs.Sequence.{IsSequence}
use Rattle.pfs_order.proofs.Published.Sequences.{IsSequence-nil, IsSequence-cons, IsSequence-head, IsSequence-rest}
use Rattle.pfs_c.specs.Private.Marks.{AreMarked}
use Rattle.pfs_c.proofs.Jobs.{absent_any, joined}

pub marked_start : (size : ℕ) (jobs : List ℕ) (marks : List Bool) → size ≤ length marks
    → All (λ mark. mark ≡ false) marks → AreMarked size jobs marks false 0
marked_start size jobs marks long none = record {
  long = long;
  marked = λ job d within. none job d within;
  repeated = (λ no. IsSequence-nil size, λ sequence. refl);
}

module _ (size : ℕ) (jobs : List ℕ) (marks : List Bool) (is_repeated : Bool) (place : ℕ)
    (h : AreMarked size jobs marks is_repeated place) where
  pub one_more_marked : (d : Bool) → place < length jobs → get_or jobs place 0 < size → AreMarked size jobs
      (set marks (get_or jobs place 0) true) (is_repeated || get_or marks (get_or jobs place 0) d) (place + 1)
  one_more_marked d within below =
      let before = take place jobs in
      let job = get_or jobs place 0 in
      let room : job < length marks = omega (arith, h.long, below) in
      let long = length-set marks job true in
      record {
        long = omega (arith, long, h.long);
        marked = λ other e lt. rw (take_more jobs place 0 within, list_any-append (nat_eq other) before (job ∷ []))
            (elim (cases_Bool (nat_eq other job)) [
              | inl same ↦ rw (same, or-true (list_any (nat_eq other) before))
                  (get_or-set_at marks job other true e (eqb-true other job same) room)
              | inr apart ↦ rw (apart, or-false (list_any (nat_eq other) before))
                  (get_or-set_other marks job other true e (eqb-false other job apart)
                  ∙ h.marked other e (omega (arith, long, lt)))
            ]);
        repeated = rw (take_more jobs place 0 within, h.marked job d room) (
          λ no.
              let parts = or_parts is_repeated (list_any (nat_eq job) before) no in
              joined size (job ∷ []) before (IsSequence-cons size job before below
              (λ among. absurd (let found = list_any-from_Contains nat_eq_equiv job before among in cc))
              (h.repeated.0 parts.0)),
          λ sequence.
              let turned = joined size before (job ∷ []) sequence in
              or_from is_repeated (list_any (nat_eq job) before)
              (h.repeated.1 (IsSequence-rest size job before turned))
              (absent_any before job (IsSequence-head size job before turned)),
        );
      }

  module _ (all : length jobs ≤ place) where
    pub jobs_distinct : (is_repeated ≡ false) ↔ IsSequence size jobs
    jobs_distinct = rw (take_all place jobs all) at h.repeated

    -- no job outside the marks is in a sequence
    pub jobs_marked : IsSequence size jobs → (job : ℕ) → (get_or marks job false ≡ true) ↔ Contains jobs job
    jobs_marked sequence job = elim (cases_lt job (length marks)) [
      | inl within ↦
          let is = rw (take_all place jobs all) at (h.marked job false within) in (
            λ yes. Contains-from_any eqb-true job jobs (sym is ∙ yes),
            λ among. is ∙ list_any-from_Contains nat_eq_equiv job jobs among,
          )
      | inr outside ↦
          let is = get_or_past marks job false outside in (
            λ yes. absurd (cc),
            λ among. absurd (let below = All-contains (λ j. j < size) jobs job sequence.in_range among in
                omega (arith, h.long)),
          )
    ]
