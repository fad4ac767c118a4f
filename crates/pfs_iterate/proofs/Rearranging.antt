-- Sequences whose jobs move behind the first `held`.
use Rattle.std.proofs.Common.{◌≡◌, ℕ, ◌≤◌, ◌<◌, ◌++◌, ◌∷◌, length, get_or, insert, remove, refl, ◌∙◌, arith}
use Rattle.std.proofs.lemmas.List.{get_or_default}
use Rattle.std.proofs.lemmas.List.Edits.{length-insert, length-remove}
use Rattle.std.proofs.lemmas.List.Sorted.{IsPermutation-append_right, IsPermutation-remove, IsPermutation-insert}
use Rattle.std.proofs.lemmas.List.Sorted.{IsPermutation-trans}
use Rattle.pfs_order.specs.Sequence.{Sequence}
use Rattle.pfs_order.proofs.Published.Sequences.{IsSequence-permutation}
use Rattle.pfs_iterate.specs.Private.Steps.{IsRearranged}
use Rattle.pfs_iterate.proofs.Fronts.{take-insert, take-remove}

pub rearranged-refl : (held : ℕ) (seq : Sequence) → IsRearranged held seq seq
rearranged-refl held seq = record { size = refl; count = refl; front = refl; same = λ rest h. h }

pub rearranged-trans : (held : ℕ) (one two three : Sequence) → IsRearranged held one two → IsRearranged held two three
    → IsRearranged held one three
rearranged-trans held one two three first then = record {
  size = then.size ∙ first.size;
  count = then.count ∙ first.count;
  front = then.front ∙ first.front;
  same = λ rest h. rw first.size at (then.same rest (rw (← first.size) at (first.same rest h)));
}

-- a job leaves a place for another one
pub rearranged-moved : (held place to job : ℕ) (seq : Sequence) → held ≤ place → place < length seq.jobs
    → held ≤ to → to < length seq.jobs → job ≡ get_or seq.jobs place 0
    → IsRearranged held seq (record seq { jobs = insert (remove seq.jobs place) to job })
rearranged-moved held place to job seq behind within to_behind to_within at =
    let jobs = seq.jobs in
    let here : job ≡ get_or jobs place job = at ∙ get_or_default jobs place 0 job within in
    let fewer = length-remove jobs place within in
    record {
      size = refl;
      count = omega (arith, fewer, length-insert (remove jobs place) to job (omega arith));
      front = take-insert held to job (remove jobs place) to_behind (omega arith) ∙ take-remove held place jobs behind;
      same = λ rest h. IsSequence-permutation seq.size (rest ++ jobs) (rest ++ insert (remove jobs place) to job)
          (IsPermutation-append_right rest jobs (insert (remove jobs place) to job)
          (IsPermutation-trans jobs (job ∷ remove jobs place) (insert (remove jobs place) to job)
          (IsPermutation-remove jobs place job within here) (IsPermutation-insert (remove jobs place) to job))) h;
    }
