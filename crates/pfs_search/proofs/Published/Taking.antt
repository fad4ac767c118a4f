-- Removing jobs.
use Rattle.std.proofs.Common.{◌≡◌, ℕ, ◌+◌, ◌<◌, List, [], ◌∷◌, ◌++◌, length, get_or, drop, insert, remove, Contains}
use Rattle.std.proofs.Common.{◌∙◌}
use Rattle.std.proofs.lemmas.List.{get_or_default, drop_more}
use Rattle.std.proofs.lemmas.List.Elements.{Contains-append_right}
use Rattle.std.proofs.lemmas.List.Sorted.{IsPermutation-more, IsPermutation-refl}
use Rattle.pfs_order.specs.Sequence.{IsSequence}
use Rattle.pfs_order.proofs.Published.Sequences.{IsSequence-permutation, IsSequence-first, IsSequence-head}
use Rattle.pfs_order.proofs.Published.Sequences.{IsSequence-moved}

-- one more job goes from the jobs that are left to the removed jobs
pub taken_more : (size : ℕ) (done jobs : List ℕ) (place job : ℕ) → place < length jobs → job ≡ get_or jobs place 0
    → IsSequence size (done ++ jobs) → IsSequence size ((done ++ job ∷ []) ++ remove jobs place)
taken_more size done jobs place job within at =
    let here : job ≡ get_or jobs place job = at ∙ get_or_default jobs place 0 job within in
    IsSequence-permutation size _ _ (IsPermutation-more _ done jobs place job within here (IsPermutation-refl _))

-- ---- the removed job that is inserted next

module _ (size : ℕ) (taken jobs : List ℕ) (i : ℕ) (within : i < length taken)
    (together : IsSequence size (drop i taken ++ jobs)) where
  abbrev next : ℕ
  next = get_or taken i 0

  with_next : IsSequence size (next ∷ (drop (i + 1) taken ++ jobs))
  with_next = rw (drop_more taken i 0 within) at together

  pub next_small : next < size
  next_small = IsSequence-first size next (drop (i + 1) taken ++ jobs) with_next

  pub next_absent : Contains jobs next → ⊥
  next_absent among = IsSequence-head size next _ with_next (Contains-append_right (drop (i + 1) taken) jobs next among)

  pub next_moved : (place : ℕ) → IsSequence size (drop (i + 1) taken ++ insert jobs place next)
  next_moved place = IsSequence-moved size next place (drop (i + 1) taken) jobs with_next
