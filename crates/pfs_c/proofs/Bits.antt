-- Jobs whose marks are bits of a word.
use Rattle.std.proofs.Common.{◌≡◌, ◌↔◌, ℕ, ◌+◌, ◌*◌, ◌/◌, ◌%◌, ◌^◌, ◌<◌, ◌≤◌, cond, List, [], ◌∷◌}
use Rattle.std.proofs.Common.{◌++◌, length, take, get_or, nat_eq, bit_or, count_ones, sym, ◌∙◌, ap, inl, inr}
use Rattle.std.proofs.Common.{w64, arith}
use Rattle.std.proofs.Math.Bool.{or-false, or-true}
use Rattle.std.proofs.Math.Nat.{mod-eq_of_lt, zero-mul}
use Rattle.std.proofs.Math.Pow.{pow-lt}
use Rattle.std.specs.Cmp.{nat_eq_equiv}
use Rattle.std.specs.List.{list_any}
use Rattle.std.specs.Int.{bit_at}
use Rattle.std.proofs.lemmas.Bool.{cases_Bool, cases_eq, eqb-true, eqb-false}
use Rattle.std.proofs.lemmas.List.{take_all, take_more}
use Rattle.std.proofs.lemmas.List.Folds.{list_any-append}
use Rattle.std.proofs.lemmas.Map.Views.{Contains-from_any, list_any-from_Contains}
use Rattle.std.proofs.lemmas.Nat.{div-add-mod', mod_below, ones_cat, ones_le_self, or_disjoint, pow_pos, zero_from_ones}
use Rattle.std.proofs.lemmas.Nat.Bits.{and_pow, bit_at-zero, bit_at_set_same, bit_at_set_other, same_from_bits}
use Rattle.pfs_order.specs.Sequence.{IsSequence}
use Rattle.pfs_order.proofs.Published.Sequences.{IsSequence-nil, IsSequence-cons, IsSequence-head, IsSequence-rest}
use Rattle.pfs_c.specs.Private.Marks.{AreBits}
use Rattle.pfs_c.proofs.Jobs.{joined}

-- ---- a bit that is set

set_again : (n k : ℕ) → k < 64 → bit_at n k ≡ 1 → bit_or n (1 * 2 ^ k % 2 ^ 64) ≡ n
set_again n k lt is = same_from_bits (bit_or n (1 * 2 ^ k % 2 ^ 64)) n (λ i. elim (cases_eq i k) [
  | inl same ↦ rw same (bit_at_set_same w64 n k lt ∙ sym is)
  | inr other ↦ bit_at_set_other w64 n k lt i other
])

no_ones : count_ones 0 ≡ 0
no_ones = omega (arith, ones_le_self 0)

single_one : count_ones 1 ≡ 1
single_one = grind (arith, ones_le_self 1, zero_from_ones 1)

ones_next : (n : ℕ) → n % 2 ≡ 0 → count_ones (n + 1) ≡ count_ones n + 1
ones_next n even =
    let half : n ≡ n / 2 * 2 ^ 1 + 0 = omega arith in
    let next : n + 1 ≡ n / 2 * 2 ^ 1 + 1 = omega arith in
    let a = ap count_ones half ∙ ones_cat 1 (n / 2) 0 (omega arith) in
    let b = ap count_ones next ∙ ones_cat 1 (n / 2) 1 (omega arith) in
    omega (arith, a, b, no_ones, single_one)

ones_more : (n k : ℕ) → k < 64 → bit_at n k ≡ 0 → count_ones (bit_or n (1 * 2 ^ k % 2 ^ 64)) ≡ count_ones n + 1
ones_more n k lt is =
    let power : ℕ = 2 ^ k in
    let high : ℕ = n / 2 ^ k in
    let low : ℕ = n % 2 ^ k in
    let below : low < 2 ^ k = mod_below n (2 ^ k) (pow_pos k) in
    let one : 1 * 2 ^ k ≡ 2 ^ k = omega arith in
    let small : 1 * 2 ^ k % 2 ^ 64 ≡ 2 ^ k = ap (λ p. p % 2 ^ 64) one ∙ mod-eq_of_lt (pow-lt lt) in
    let apart = and_pow n k ∙ ap (λ b. b * 2 ^ k) is ∙ zero-mul (2 ^ k) in
    let sum = or_disjoint n (2 ^ k) apart in
    let parts : high * 2 ^ k + low ≡ n = div-add-mod' n (2 ^ k) in
    let more : n + 2 ^ k ≡ (high + 1) * 2 ^ k + low = omega (arith, parts) in
    let a = ap count_ones (sym parts) ∙ ones_cat k high low below in
    let b = ap count_ones more ∙ ones_cat k (high + 1) low below in
    let c = ones_next high is in
    ap (λ p. count_ones (bit_or n p)) small ∙ ap count_ones sum ∙ omega (arith, a, b, c)

-- ---- jobs

pub bits_start : (size : ℕ) (jobs : List ℕ) → AreBits size jobs 0 0
bits_start size jobs = record {
  marked = λ job. bit_at-zero job;
  few = omega (arith, no_ones);
  distinct = (λ none. IsSequence-nil size, λ sequence. no_ones);
}

pub one_more_bit : (size : ℕ) (jobs : List ℕ) (marks place : ℕ) → AreBits size jobs marks place → size ≤ 64
    → place < length jobs → get_or jobs place 0 < size
    → AreBits size jobs (bit_or marks (1 * 2 ^ get_or jobs place 0 % 2 ^ 64)) (place + 1)
one_more_bit size jobs marks place h small within below =
    let before : List ℕ = take place jobs in
    let job : ℕ = get_or jobs place 0 in
    let fits : job < 64 = omega arith in
    let few = h.few in
    let at = h.marked job in
    let new : ℕ = bit_or marks (1 * 2 ^ job % 2 ^ 64) in
    let marked : (other : ℕ) → bit_at new other ≡ cond (list_any (nat_eq other) (before ++ job ∷ [])) 1 0 = λ other.
    rw (list_any-append (nat_eq other) before (job ∷ []))
    (elim (cases_Bool (nat_eq other job)) [
      | inl same ↦ rw (same, or-true (list_any (nat_eq other) before), eqb-true other job same)
          (bit_at_set_same w64 marks job fits)
      | inr apart ↦ rw (apart, or-false (list_any (nat_eq other) before))
          (bit_at_set_other w64 marks job fits other (eqb-false other job apart) ∙ h.marked other)
    ]) in
    let counted : (count_ones new ≤ place + 1) × ((count_ones new ≡ place + 1) ↔ IsSequence size (before ++ job ∷ [])) =
    elim (cases_Bool (list_any (nat_eq job) before)) [
      | inl again ↦
          let same = ap count_ones (set_again marks job fits (at ∙ ap (λ b. cond b 1 0) again)) in
          let among = Contains-from_any eqb-true job before again in (
            omega (arith, same, few),
            (
              λ all. absurd (omega (arith, same, few, all)),
              λ sequence. absurd (IsSequence-head size job before (joined size before (job ∷ []) sequence) among),
            ),
          )
      | inr first ↦
          let more = ones_more marks job fits (at ∙ ap (λ b. cond b 1 0) first) in (
            omega (arith, more, few),
            (
              λ all. joined size (job ∷ []) before (IsSequence-cons size job before below
                  (λ among. absurd (let found = list_any-from_Contains nat_eq_equiv job before among in cc))
                  (h.distinct.0 (omega (arith, more, all)))),
              λ sequence.
                  let rest = IsSequence-rest size job before (joined size before (job ∷ []) sequence) in
                  more ∙ ap (λ k. k + 1) (h.distinct.1 rest),
            ),
          )
    ] in
    record {
      marked = λ other. rw (take_more jobs place 0 within) (marked other);
      few = counted.0;
      distinct = rw (take_more jobs place 0 within) counted.1;
    }

pub bits_distinct : (size : ℕ) (jobs : List ℕ) (marks place : ℕ) → AreBits size jobs marks place → place ≡ length jobs
    → (count_ones marks ≡ length jobs) ↔ IsSequence size jobs
bits_distinct size jobs marks place h all =
    rw (← all) (rw (take_all place jobs (omega arith)) at h.distinct)
