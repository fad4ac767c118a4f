-- Arrays that a loop fills machine by machine.
use Rattle.std.proofs.Common.{◌≡◌, ℕ, List, length, get_or, replicate, set, arith, inl, inr, ◌∙◌, subst, sym}
use Rattle.std.proofs.Math.ListN.{length-set}
use Rattle.std.proofs.lemmas.Bool.{cases_eq, cases_lt}
use Rattle.std.proofs.lemmas.List.{get_or-replicate, get_or-set_same, get_or-set_other, get_or_past}
use Rattle.std.proofs.lemmas.List.{length-replicate}
use Rattle.pfs_exact.specs.Private.Nodes.{Each}

-- numbers of which one is replaced
pub each_set : (Is : ℕ → ℕ → Type 0) (machines at x : ℕ) (numbers : List ℕ) → Is at x
    → Each Is machines numbers → Each Is machines (set numbers at x)
each_set Is machines at x numbers here each = λ k small. elim (cases_eq k at) [
  | inr other ↦ subst (Is k) (sym (get_or-set_other numbers at k x 0 other)) (each k small)
  | inl is ↦ elim (cases_lt at (length numbers)) [
    | inl within ↦ subst (λ j. Is j (get_or (set numbers at x) j 0)) (sym is)
        (subst (Is at) (sym (get_or-set_same numbers at x 0 within)) here)
    | inr past ↦
        let was = get_or_past numbers k 0 (omega arith) in
        let long = length-set numbers at x in
        let now = get_or_past (set numbers at x) k 0 (omega arith) in
        subst (Is k) (was ∙ sym now) (each k small)
  ]
]

pub all_zero : (many at : ℕ) → ◌≡◌ {A = ℕ} (get_or (replicate many 0) at 0) 0
all_zero many at = elim (cases_lt at many) [
  | inl within ↦ get_or-replicate many at 0 0 within
  | inr past ↦ get_or_past (replicate many 0) at 0 (omega (arith, length-replicate {A = ℕ} many 0))
]
