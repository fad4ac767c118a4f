-- Eight lanes of 16 bits, as a processor computes them.
use Rattle.std.proofs.Common.{◌≡◌, ℕ, ◌+◌, ◌-◌, ◌<◌, ◌≤◌, ◌^◌, max, min, cond, List, [], ◌∷◌, ◌++◌, length, map}
use Rattle.std.proofs.Common.{get_or, arith, refl, sym, rules}
use Rattle.std.proofs.lemmas.Int.{ints}
use Rattle.std.proofs.lemmas.Bool.Decides.{nat_tests}
use Rattle.std.proofs.lemmas.List.{ext_get_or, places}
use Rattle.pfs_exact.proofs.Eight.{each_of_eight, eight_at}
use lib.Lanes.{top, zip2, sel_l, pick_l, Each1}
use borrow.Rule.Simd.Lanes.{act2}
use mir.Syntax.{mask, lt, unsigned, wrap_sub, w16}
use borrow.Table.Row.{s_int}
use borrow.Rule.Slice.PartMut.{put_mid}

abbrev less : ℕ → ℕ → ℕ
less = act2 (mask (lt unsigned)) (s_int w16) (s_int w16) (s_int w16)

abbrev wrapped_difference : ℕ → ℕ → ℕ
wrapped_difference = act2 wrap_sub (s_int w16) (s_int w16) (s_int w16)

cons_same : {x y : ℕ} {xs ys : List ℕ} → x ≡ y → xs ≡ ys → x ∷ xs ≡ y ∷ ys
cons_same p q = cc

greater_one : (x y : ℕ) → cond (top 15 (less x y)) y x ≡ max x y
greater_one x y = grind (arith, nat_tests, ints)

pub greater_is : (xs ys : List ℕ) → sel_l (map (top 15) (zip2 less xs ys)) ys xs ≡ zip2 max xs ys
greater_is [] ys = refl
greater_is (x ∷ xs) [] = refl
greater_is (x ∷ xs) (y ∷ ys) = cons_same (greater_one x y) (greater_is xs ys)

lesser_one : (x y : ℕ) → cond (top 15 (less x y)) x y ≡ min x y
lesser_one x y = grind (arith, nat_tests, ints)

pub lesser_is : (xs ys : List ℕ) → sel_l (map (top 15) (zip2 less xs ys)) xs ys ≡ zip2 min xs ys
lesser_is [] ys = refl
lesser_is (x ∷ xs) [] = refl
lesser_is (x ∷ xs) (y ∷ ys) = cons_same (lesser_one x y) (lesser_is xs ys)

difference_one : (x y : ℕ) → x < 2 ^ 16 → y < 2 ^ 16 → wrapped_difference (cond (top 15 (less x y)) y x) y ≡ x - y
difference_one x y small other = grind (arith, nat_tests, ints)

pub difference_is : (xs ys : List ℕ) → Each1 (λ x. x < 2 ^ 16) xs → Each1 (λ x. x < 2 ^ 16) ys
    → zip2 wrapped_difference (sel_l (map (top 15) (zip2 less xs ys)) ys xs) ys ≡ zip2 (λ x y. x - y) xs ys
difference_is [] ys each every = refl
difference_is (x ∷ xs) [] each every = refl
difference_is (x ∷ xs) (y ∷ ys) each every =
    cons_same (difference_one x y each.0 every.0) (difference_is xs ys each.1 every.1)

-- the eight numbers of a list
pub eight_lanes : (xs : List ℕ) → length xs ≡ 8
    → xs ≡ get_or xs 0 0 ∷ get_or xs 1 0 ∷ get_or xs 2 0 ∷ get_or xs 3 0 ∷ get_or xs 4 0 ∷ get_or xs 5 0
    ∷ get_or xs 6 0 ∷ get_or xs 7 0 ∷ []
eight_lanes xs long = ext_get_or 0 xs _ long (λ i lt. sym (eight_at (λ k. get_or xs k 0) 0 i (omega (arith, long, lt))))

-- an element of a list in which a part was written
pub put_in : (a n i : ℕ) (xs ys : List ℕ) → length ys ≡ n → a + n ≤ length xs → i < n
    → get_or (put_mid a n xs ys) (a + i) 0 ≡ get_or ys i 0
put_in a n i xs ys long fits within = search (rules, places)

-- the lesser of each lane and another one
abbrev pub folded : List ℕ → List ℕ → List ℕ
folded xs lanes = zip2 min xs (pick_l 0 (xs ++ xs) lanes)

abbrev pub folded_thrice : List ℕ → List ℕ
folded_thrice xs =
    folded (folded (folded xs (4 ∷ 5 ∷ 6 ∷ 7 ∷ 0 ∷ 1 ∷ 2 ∷ 3 ∷ [])) (2 ∷ 3 ∷ 0 ∷ 1 ∷ 6 ∷ 7 ∷ 4 ∷ 5 ∷ []))
    (1 ∷ 0 ∷ 3 ∷ 2 ∷ 5 ∷ 4 ∷ 7 ∷ 6 ∷ [])

first_least : (a b c d e f g h : ℕ) (lane : ℕ) → lane < 8
    → get_or (folded_thrice (a ∷ b ∷ c ∷ d ∷ e ∷ f ∷ g ∷ h ∷ [])) 0 0
    ≤ get_or (a ∷ b ∷ c ∷ d ∷ e ∷ f ∷ g ∷ h ∷ []) lane 0
first_least a b c d e f g h =
    let least : ℕ = min (min (min a e) (min c g)) (min (min b f) (min d h)) in
    each_of_eight (λ k. least ≤ get_or (a ∷ b ∷ c ∷ d ∷ e ∷ f ∷ g ∷ h ∷ []) k 0) (omega arith) (omega arith)
    (omega arith) (omega arith) (omega arith) (omega arith) (omega arith) (omega arith)

pub folded_least : (xs : List ℕ) → length xs ≡ 8 → (lane : ℕ) → lane < 8
    → get_or (folded_thrice xs) 0 0 ≤ get_or xs lane 0
folded_least xs long lane small =
    rw (eight_lanes xs long) (first_least (get_or xs 0 0) (get_or xs 1 0) (get_or xs 2 0) (get_or xs 3 0) (get_or xs 4 0)
    (get_or xs 5 0) (get_or xs 6 0) (get_or xs 7 0) lane small)
