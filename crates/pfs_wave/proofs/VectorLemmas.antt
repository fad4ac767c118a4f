-- Lanes of 16, 32 and 64 bits, as a processor computes them.
use Rattle.std.proofs.Common.{◌≡◌, ℕ, zero, suc, ◌-◌, ◌<◌, ◌^◌, max, cond, List, [], ◌∷◌}
use Rattle.std.proofs.Common.{length, map, arith, refl}
use Rattle.std.proofs.lemmas.Int.{ints}
use Rattle.std.proofs.lemmas.Bool.Decides.{nat_tests}
use Rattle.pfs_wave.specs.Private.Lanes.{capped_add}
use lib.Lanes.{top, zip2, sel_l, Each1}
use borrow.Rule.Simd.Lanes.{act1, act2}
use mir.Syntax.{Width, mask, lt, unsigned, wrap_add, wrap_sub, bit_not, w16, w32, w64}
use borrow.Table.Row.{s_int}

abbrev pub less : Width → ℕ → ℕ → ℕ
less w = act2 (mask (lt unsigned)) (s_int w) (s_int w) (s_int w)

abbrev pub wrapped_sum : Width → ℕ → ℕ → ℕ
wrapped_sum w = act2 wrap_add (s_int w) (s_int w) (s_int w)

abbrev pub turned : Width → ℕ → ℕ
turned w = act1 bit_not (s_int w) (s_int w)

-- the sum of two lanes, of which the last bit has the number `last`, as a processor saturates it
abbrev saturated : Width → ℕ → ℕ → ℕ → ℕ
saturated w last x y = wrapped_sum w x (cond (top last (less w y (turned w x))) y (turned w x))

cons_same : {x y : ℕ} {xs ys : List ℕ} → x ≡ y → xs ≡ ys → x ∷ xs ≡ y ∷ ys
cons_same p q = cc

module _ (w : Width) (last : ℕ) where
  greater_lanes : ((x y : ℕ) → cond (top last (less w x y)) y x ≡ max x y) → (xs ys : List ℕ)
      → sel_l (map (top last) (zip2 (less w) xs ys)) ys xs ≡ zip2 max xs ys
  greater_lanes one [] ys = refl
  greater_lanes one (x ∷ xs) [] = refl
  greater_lanes one (x ∷ xs) (y ∷ ys) = cons_same (one x y) (greater_lanes one xs ys)

  saturated_lanes : (cap : ℕ) → ((x y : ℕ) → x < suc cap → saturated w last x y ≡ capped_add cap x y)
      → (xs ys : List ℕ) → Each1 (λ x. x < suc cap) xs
      → zip2 (wrapped_sum w) xs (sel_l (map (top last) (zip2 (less w) ys (map (turned w) xs))) ys (map (turned w) xs))
      ≡ zip2 (capped_add cap) xs ys
  saturated_lanes cap one [] ys each = refl
  saturated_lanes cap one (x ∷ xs) [] each = refl
  saturated_lanes cap one (x ∷ xs) (y ∷ ys) each = cons_same (one x y each.0) (saturated_lanes cap one xs ys each.1)

-- ---- the greater lanes

short_greater : (x y : ℕ) → cond (top 15 (less w16 x y)) y x ≡ max x y
short_greater x y = grind (arith, nat_tests, ints)

long_greater : (x y : ℕ) → cond (top 31 (less w32 x y)) y x ≡ max x y
long_greater x y = grind (arith, nat_tests, ints)

pub short_greater_is : (xs ys : List ℕ) → sel_l (map (top 15) (zip2 (less w16) xs ys)) ys xs ≡ zip2 max xs ys
short_greater_is = greater_lanes w16 15 short_greater

pub long_greater_is : (xs ys : List ℕ) → sel_l (map (top 31) (zip2 (less w32) xs ys)) ys xs ≡ zip2 max xs ys
long_greater_is = greater_lanes w32 31 long_greater

-- ---- sums of 16 bits

short_turned : (x : ℕ) → x < 2 ^ 16 → turned w16 x ≡ 65535 - x
short_turned x small = grind (arith, nat_tests, ints)

short_sum : (x y z : ℕ) → x < 2 ^ 16 → z ≡ 65535 - x
    → wrapped_sum w16 x (cond (top 15 (less w16 y z)) y z) ≡ capped_add 65535 x y
short_sum x y z small e = grind (arith, nat_tests, ints)

pub short_sum_is : (xs ys : List ℕ) → Each1 (λ x. x < 2 ^ 16) xs
    → zip2 (wrapped_sum w16) xs (sel_l (map (top 15) (zip2 (less w16) ys (map (turned w16) xs))) ys (map (turned w16) xs))
    ≡ zip2 (capped_add 65535) xs ys
short_sum_is = saturated_lanes w16 15 65535 (λ x y small. short_sum x y (turned w16 x) small (short_turned x small))

-- ---- the greater of 64 bits, by the sign bit of the difference

abbrev difference : ℕ → ℕ → ℕ
difference = act2 wrap_sub (s_int w64) (s_int w64) (s_int w64)

abbrev pub wide_greater : ℕ → ℕ → ℕ
wide_greater x y = cond (top 63 (less w64 (difference x y) 9223372036854775808)) x y

pub wide_greater_is : (x y : ℕ) → x < 9223372036854775807 → y < 9223372036854775807 → wide_greater x y ≡ max x y
wide_greater_is x y p q = grind (arith, nat_tests, ints)

-- as many signs as lanes
abbrev signs : ℕ → List ℕ
signs zero = []
signs (suc n) = 9223372036854775808 ∷ signs n

pub wide_lanes : (n : ℕ) (xs ys : List ℕ) → length xs ≡ n → length ys ≡ n
    → sel_l (map (top 63) (zip2 (less w64) (zip2 difference xs ys) (signs n))) xs ys ≡ zip2 wide_greater xs ys
wide_lanes n [] ys p q = refl
wide_lanes n (x ∷ xs) [] p q = absurd (omega arith)
wide_lanes zero (x ∷ xs) (y ∷ ys) p q = absurd (omega arith)
wide_lanes (suc n) (x ∷ xs) (y ∷ ys) p q = cons_same refl (wide_lanes n xs ys (omega arith) (omega arith))
