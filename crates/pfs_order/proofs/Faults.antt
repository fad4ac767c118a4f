-- How far a text can be completed: where a prefix ends, and where a part must follow a prefix.
use Rattle.std.proofs.Common.{◌≡◌, ℕ, ◌+◌, ◌-◌, ◌≤◌, inl, inr, List, [], ◌∷◌, ◌++◌, zero, suc, length, take, refl}
use Rattle.std.proofs.Common.{arith}
use Rattle.std.proofs.lemmas.Bool.{cases_lt}
use Rattle.std.proofs.lemmas.List.{append_assoc, length-append, take_at}
use Rattle.std.proofs.Math.Seq.{take-append-add}
use Rattle.pfs_order.specs.OrderFile.{IsFaultOf, CanBeCompleted}
use Rattle.pfs_order.proofs.Scanning.{with_tail, with_tail-same}

-- some bytes, with and without others after them, begin with the same byte
begins_so : (after rest : List ℕ) (n : ℕ) → 1 ≤ n → 1 ≤ length after
    → (other : List ℕ) × (take n after ++ rest ≡ with_tail after other)
begins_so [] rest n h l = absurd (omega arith)
begins_so (b ∷ after) rest zero h l = absurd (omega arith)
begins_so (b ∷ after) rest (suc n) h l = (take n after ++ rest, refl)

-- a prefix that can be completed, but neither is a text itself nor continues with the next byte
pub fault_where_front_ends : (grammar : List ℕ → Type 0) (front after : List ℕ) → CanBeCompleted grammar front
    → ((other : List ℕ) → ¬ grammar (front ++ with_tail after other))
    → IsFaultOf grammar (front ++ after) (length front)
fault_where_front_ends grammar front after (rest, done) stops = record {
  no_text = λ h. let (other, same) = with_tail-same after in stops other (rw same h);
  within = omega (arith, length-append front after);
  completed = (rest, rw (take_at front after (length front) refl) done);
  longest = λ n h c. elim (cases_lt (length front) n) [
    | inl long ↦
        let some : 1 ≤ length after = omega (arith, length-append front after) in
        let (other, same) = begins_so after c.0 (n - length front) (omega arith) some in
        let size : n ≡ length front + (n - length front) = omega arith in
        let bytes = rw (← size) at (take-append-add front after (n - length front)) in
        absurd (stops other (rw (← same, ← append_assoc, ← bytes) c.1))
    | inr short ↦ short
  ];
}
