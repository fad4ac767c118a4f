-- Lanes of signed numbers.
use Rattle.std.proofs.Common.{◌≡◌, ℕ, ◌+◌, ◌≤◌, max, cond, List, [], ◌∷◌, length, map, get_or, ap, ◌∙◌, sym, arith, ℤ}
use Rattle.std.proofs.Common.{pos, to_z, of_z}
use Rattle.std.specs.Int.{w64}
use Rattle.std.proofs.lemmas.Int.{ints, of_z-to_z}
use Rattle.std.proofs.lemmas.Bool.Decides.{nat_tests}
use Rattle.pfs_base.specs.declared.bench.TheConstants.{SPAN_MAX}
use Rattle.pfs_base.specs.Paths.{greatest}
use Rattle.pfs_base.proofs.Sums.{max_last, four_same}
use lib.Lanes.{top, zip2, sel_l}
use borrow.Rule.Simd.Lanes.{act2}
use mir.Syntax.{mask, lt, signed, wrap_add}
use borrow.Table.Row.{s_int}

-- two lanes added, and whether one is less than the other, as a processor computes them
abbrev pub added : ℕ → ℕ → ℕ
added = act2 wrap_add (s_int w64) (s_int w64) (s_int w64)

abbrev pub is_less : ℕ → ℕ → ℕ
is_less = act2 (mask (lt signed)) (s_int w64) (s_int w64) (s_int w64)

pub added_is : (x y : ℕ) → x + y ≤ SPAN_MAX → added (of_z w64 (to_z w64 x)) (of_z w64 (to_z w64 y)) ≡ x + y
added_is x y small =
    let one : of_z w64 (to_z w64 x) ≡ x = of_z-to_z w64 x (omega arith) in
    let two : of_z w64 (to_z w64 y) ≡ y = of_z-to_z w64 y (omega arith) in
    ap (λ n. added n (of_z w64 (to_z w64 y))) one ∙ ap (added x) two ∙ omega arith

pub chosen_is : (x y : ℕ) → x ≤ SPAN_MAX → y ≤ SPAN_MAX → cond (top 63 (is_less x y)) y x ≡ max x y
chosen_is x y small less = grind (arith, nat_tests, ints)

-- a lane keeps its value when it is read
lane_read : (lane : ℤ) → of_z w64 lane ≤ SPAN_MAX
    → of_z w64 (to_z w64 (of_z w64 (to_z w64 (of_z w64 lane)))) ≡ of_z w64 lane
lane_read lane small =
    let once : of_z w64 (to_z w64 (of_z w64 lane)) ≡ of_z w64 lane = of_z-to_z w64 (of_z w64 lane) (omega arith) in
    ap (λ n. of_z w64 (to_z w64 n)) once ∙ once

abbrev pub read_at : List ℤ → ℕ → ℕ
read_at lanes lane = of_z w64 (to_z w64 (of_z w64 (get_or (map (to_z w64) (map (of_z w64) lanes)) lane (pos 0))))

pub greatest_four : (w x y z : ℕ) → greatest (w ∷ x ∷ y ∷ z ∷ []) ≡ max (max w x) (max y z)
greatest_four w x y z =
    ap (λ n. max (max (max n x) y) z) (let none : max 0 w ≡ w = omega arith in none) ∙ max_last (max w x) y z

most_same : {a b c d e f g h : ℕ} → a ≡ e → b ≡ f → c ≡ g → d ≡ h
    → max (max a b) (max c d) ≡ max (max e f) (max g h)
most_same p q r s = cc

pub lanes_read : (lanes : List ℤ) → length lanes ≡ 4 → greatest (map (of_z w64) lanes) ≤ SPAN_MAX
    → max (max (read_at lanes 0) (read_at lanes 1)) (max (read_at lanes 2) (read_at lanes 3))
    ≡ greatest (map (of_z w64) lanes)
lanes_read (w ∷ x ∷ y ∷ z ∷ []) four small =
    let all = greatest_four (of_z w64 w) (of_z w64 x) (of_z w64 y) (of_z w64 z) in
    let a = lane_read w (omega arith) in
    let b = lane_read x (omega arith) in
    let c = lane_read y (omega arith) in
    let d = lane_read z (omega arith) in
    most_same a b c d ∙ sym all
lanes_read [] four small = absurd (omega arith)
lanes_read (w ∷ []) four small = absurd (omega arith)
lanes_read (w ∷ x ∷ []) four small = absurd (omega arith)
lanes_read (w ∷ x ∷ y ∷ []) four small = absurd (omega arith)
lanes_read (w ∷ x ∷ y ∷ z ∷ v ∷ lanes) four small = absurd (omega arith)

-- the greater, lane by lane, of some lanes and of the sums of two others
abbrev pub raised : List ℕ → List ℤ → List ℤ → List ℕ
raised lanes a b =
    let sums = zip2 added (map (of_z w64) a) (map (of_z w64) b) in
    sel_l (map (top 63) (zip2 is_less lanes sums)) sums lanes

-- the same in one lane
raised_at : (lane x y : ℕ) → lane ≤ SPAN_MAX → x + y ≤ SPAN_MAX
    → let sum : ℕ = added (of_z w64 (to_z w64 x)) (of_z w64 (to_z w64 y)) in
    cond (top 63 (is_less lane sum)) sum lane ≡ max lane (x + y)
raised_at lane x y small sum_small =
    ap (λ s. cond (top 63 (is_less lane s)) s lane) (added_is x y sum_small) ∙ chosen_is lane (x + y) small sum_small

pub raised_is : (k l m n p q r s w x y z : ℕ) → k ≤ SPAN_MAX → l ≤ SPAN_MAX → m ≤ SPAN_MAX → n ≤ SPAN_MAX
    → p + w ≤ SPAN_MAX → q + x ≤ SPAN_MAX → r + y ≤ SPAN_MAX → s + z ≤ SPAN_MAX
    → raised (k ∷ l ∷ m ∷ n ∷ []) (map (to_z w64) (p ∷ q ∷ r ∷ s ∷ [])) (map (to_z w64) (w ∷ x ∷ y ∷ z ∷ []))
    ≡ max k (p + w) ∷ max l (q + x) ∷ max m (r + y) ∷ max n (s + z) ∷ []
raised_is k l m n p q r s w x y z small_k small_l small_m small_n small_p small_q small_r small_s =
    four_same (raised_at k p w small_k small_p) (raised_at l q x small_l small_q)
    (raised_at m r y small_m small_r) (raised_at n s z small_n small_s)
