-- Eight lanes of 16 bits, as a processor computes them.
use Rattle.std.proofs.Common.{◌≡◌, ℕ, ◌-◌, ◌<◌, ◌^◌, max, cond, List, [], ◌∷◌, length, map, get_or, arith, refl, sym}
use Rattle.std.proofs.lemmas.Int.{ints}
use Rattle.std.proofs.lemmas.Bool.Decides.{nat_tests}
use Rattle.std.proofs.lemmas.List.{ext_get_or}
use Rattle.pfs_batch.specs.Private.Lanes.{capped_sum}
use Rattle.pfs_batch.proofs.Eight.{eight_at}
use lib.Lanes.{top, zip2, sel_l, Each1}
use borrow.Rule.Simd.Lanes.{act1, act2}
use mir.Syntax.{mask, lt, unsigned, wrap_add, bit_not, w16}
use borrow.Table.Row.{s_int}

abbrev less : ℕ → ℕ → ℕ
less = act2 (mask (lt unsigned)) (s_int w16) (s_int w16) (s_int w16)

abbrev wrapped_sum : ℕ → ℕ → ℕ
wrapped_sum = act2 wrap_add (s_int w16) (s_int w16) (s_int w16)

abbrev turned : ℕ → ℕ
turned = act1 bit_not (s_int w16) (s_int w16)

cons_same : {x y : ℕ} {xs ys : List ℕ} → x ≡ y → xs ≡ ys → x ∷ xs ≡ y ∷ ys
cons_same p q = cc

greater_one : (x y : ℕ) → cond (top 15 (less x y)) y x ≡ max x y
greater_one x y = grind (arith, nat_tests, ints)

pub greater_is : (xs ys : List ℕ) → sel_l (map (top 15) (zip2 less xs ys)) ys xs ≡ zip2 max xs ys
greater_is [] ys = refl
greater_is (x ∷ xs) [] = refl
greater_is (x ∷ xs) (y ∷ ys) = cons_same (greater_one x y) (greater_is xs ys)

turned_one : (x : ℕ) → x < 2 ^ 16 → turned x ≡ 65535 - x
turned_one x small = grind (arith, nat_tests, ints)

sum_one : (x y z : ℕ) → x < 2 ^ 16 → z ≡ 65535 - x
    → wrapped_sum x (cond (top 15 (less y z)) y z) ≡ capped_sum x y
sum_one x y z small e = grind (arith, nat_tests, ints)

pub sum_is : (xs ys : List ℕ) → Each1 (λ x. x < 2 ^ 16) xs
    → zip2 wrapped_sum xs (sel_l (map (top 15) (zip2 less ys (map turned xs))) ys (map turned xs))
    ≡ zip2 capped_sum xs ys
sum_is [] ys each = refl
sum_is (x ∷ xs) [] each = refl
sum_is (x ∷ xs) (y ∷ ys) each = cons_same (sum_one x y (turned x) each.0 (turned_one x each.0)) (sum_is xs ys each.1)

-- the eight numbers of a list
pub eight_lanes : (xs : List ℕ) → length xs ≡ 8
    → xs ≡ get_or xs 0 0 ∷ get_or xs 1 0 ∷ get_or xs 2 0 ∷ get_or xs 3 0 ∷ get_or xs 4 0 ∷ get_or xs 5 0
    ∷ get_or xs 6 0 ∷ get_or xs 7 0 ∷ []
eight_lanes xs long = ext_get_or 0 xs _ long (λ i lt. sym (eight_at (λ k. get_or xs k 0) 0 i (omega (arith, long, lt))))
