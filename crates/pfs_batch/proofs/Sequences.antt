-- Sequences in a list, and times that zeros follow.
use Rattle.std.proofs.Common.{◌≡◌, ℕ, ◌+◌, ◌*◌, ◌<◌, ◌≤◌, List, length, take, drop, get_or, sym, ◌∙◌, inl, inr, arith}
use Rattle.std.proofs.Math.Nat.{mul-le-mul_right}
use Rattle.std.proofs.lemmas.Bool.{cases_lt}
use Rattle.std.proofs.lemmas.List.{get_or_past, get_or-take, get_or-drop, length-drop, length-take-le}
use Rattle.pfs_order.specs.Sequence.{IsSequence}
use Rattle.pfs_batch.specs.SequenceLists.{sequence_at}
use Rattle.pfs_batch.specs.Private.Ends.{IsZeroFrom}

module _ (sequences : List ℕ) (len count index : ℕ) (within : index < count) (room : count * len ≤ length sequences) where
  pub place_within : index * len + len ≤ length sequences
  place_within = omega (arith, room, mul-le-mul_right len within)

  pub job_below : (size place : ℕ) → place < len → IsSequence size (sequence_at len sequences index)
      → get_or sequences (index * len + place) 0 < size
  job_below size place lt sequence =
      let rest = length-drop (index * len) sequences in
      let fits = place_within in
      let long = length-take-le len (drop (index * len) sequences) (omega arith) in
      let is = get_or-take len (drop (index * len) sequences) place 0 lt ∙ get_or-drop (index * len) sequences place 0 in
      rw is at (sequence.in_range place 0 (omega arith))

pub taken_same : (numbers : List ℕ) (count : ℕ) → count ≤ length numbers → IsZeroFrom count numbers → (at : ℕ)
    → get_or (take count numbers) at 0 ≡ get_or numbers at 0
taken_same numbers count fits zero at = elim (cases_lt at count) [
  | inl before ↦ get_or-take count numbers at 0 before
  | inr after ↦
      let long = length-take-le count numbers fits in
      get_or_past (take count numbers) at 0 (omega arith) ∙ sym (zero at after)
]
