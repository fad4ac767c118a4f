-- A buffer's count of sent bytes, and its contents after a prefix of them was sent.
use Rattle.std.proofs.Common.{◌≡◌, ℕ, ◌+◌, ◌-◌, ◌≤◌, ◌^◌, ◌==◌, min, List, Option}
use Rattle.std.proofs.Common.{None, Some, length, take, drop, sym, ap, ◌∙◌, arith, length-append, length-drop, inl, inr}
use Rattle.std.proofs.lemmas.Bool.{cases_Bool, eqb-true, eq-eqb}
use Rattle.std.proofs.lemmas.List.{drop-take}
use Rattle.std.proofs.lemmas.List.Edits.{take-paste}
use Rattle.std.specs.Io.KnownBytes.{Appends}
use Rattle.std.specs.List.{copy_within}
use Rattle.pfs_base.specs.Buffer.{bytes_counted, count_of}

-- bytes that were written are added to the count
pub bytes_counted-more : (a b : Option (List ℕ)) (bytes : List ℕ) (sent n total : ℕ) → Appends a b bytes
    → n ≡ length bytes → total ≡ min (sent + n) (2 ^ 64 - 1)
    → Appends (bytes_counted a sent) (bytes_counted b total) bytes
bytes_counted-more None b bytes sent n total p e t = tt
bytes_counted-more (Some x) None bytes sent n total p e t = absurd p
bytes_counted-more (Some x) (Some y) bytes sent n total p e t = elim (cases_Bool (sent == count_of x)) [
  | inl same ↦
      let before = eqb-true sent (count_of x) same in
      let longer : length y ≡ length x + length bytes = ap length p ∙ length-append x bytes in
      let after : total ≡ count_of y = omega arith in
      rw (same, eq-eqb total (count_of y) after) p
  | inr other ↦ rw other tt
]

-- the unsent bytes move to the front of the buffer
pub held-rest : (bytes : List ℕ) (n count : ℕ) → n ≤ count → count ≤ length bytes
    → take (count - n) (copy_within bytes n count 0) ≡ drop n (take count bytes)
held-rest bytes n count few within =
    let rest : length (drop n bytes) ≡ length bytes - n = length-drop n bytes in
    let left : count - n ≡ 0 + (count - n) = omega arith in
    let whole : n + (count - n) ≡ count = omega arith in
    ap (λ k. take k (copy_within bytes n count 0)) left
    ∙ take-paste bytes 0 (drop n bytes) (count - n) (omega arith) (omega arith)
    ∙ sym (drop-take n (count - n) bytes) ∙ ap (λ k. drop n (take k bytes)) whole
