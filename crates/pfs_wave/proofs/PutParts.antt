-- Values written over a part of a list.
use Rattle.std.proofs.Common.{◌≡◌, ℕ, ◌+◌, ◌-◌, ◌<◌, ◌≤◌, List, ◌++◌, length, take, drop, map, get_or}
use Rattle.std.proofs.Common.{ap, ◌∙◌, sym, arith}
use Rattle.std.proofs.lemmas.List.{length-map, get_or-take, get_or-drop, take-map, drop-map, map-append, length-take-le}
use Rattle.std.proofs.lemmas.List.{length-append, length-drop, get_or-append_right, drop_all, append-nil, append_assoc}
use Rattle.std.proofs.lemmas.List.{take-append-le, drop-append-le}
use Rattle.std.proofs.lemmas.Slice.{take-put_mid, take-put_mid_below, drop-put_mid}
use borrow.Rule.Slice.PartMut.{put_mid}

-- a list over a part of which values are written is as long as before
pub put_long : {X : Type 0} (a k : ℕ) (xs ys : List X) → a + k ≤ length xs → length ys ≡ k
    → length (put_mid a k xs ys) ≡ length xs
put_long a k xs ys inside same =
    let rest = drop k (drop a xs) in
    omega (
      arith,
      length-append (take a xs) (ys ++ rest),
      length-append ys rest,
      length-take-le a xs (omega arith),
      length-drop k (drop a xs),
      length-drop a xs,
    )

-- values written over the rest of the first part of a list
pub put_front : {X : Type 0} (a k : ℕ) (xs zs ys : List X) → length xs ≡ a + k
    → put_mid a (length xs - a) xs ys ++ zs ≡ put_mid a k (xs ++ zs) ys
put_front a k xs zs ys long =
    let back = length-drop a xs in
    let n = length xs - a in
    let ends : ys ++ drop n (drop a xs) ≡ ys = ap (λ l. ys ++ l) (drop_all n (drop a xs) (omega arith)) ∙ append-nil ys in
    let rest : drop k (drop a (xs ++ zs)) ≡ zs =
    ap (drop k) (drop-append-le a xs zs (omega arith)) ∙ drop-append-le k (drop a xs) zs (omega arith)
    ∙ ap (λ l. l ++ zs) (drop_all k (drop a xs) (omega arith)) in
    ap (λ l. (take a xs ++ l) ++ zs) ends ∙ append_assoc (take a xs) ys zs
    ∙ ap (λ l. l ++ (ys ++ zs)) (sym (take-append-le a xs zs (omega arith)))
    ∙ ap (λ l. take a (xs ++ zs) ++ (ys ++ l)) (sym rest)

-- values written over a part of a list
module _ {X V : Type 0} (value : X → V) (a k : ℕ) (xs ys : List X) (inside : a ≤ length xs) (same : length ys ≡ k)
    (other : V) where
  pub put_inside : (step : ℕ) → a ≤ step → step < a + k
      → get_or (map value (put_mid a k xs ys)) step other ≡ get_or (map value ys) (step - a) other
  put_inside step le lt =
      let n = a + k in
      let front = map value (take a xs) in
      let long : length front ≡ a = length-map (take a xs) value ∙ length-take-le a xs inside in
      sym (get_or-take n (map value (put_mid a k xs ys)) step other lt)
      ∙ ap (λ l. get_or l step other) (take-map value n (put_mid a k xs ys)
      ∙ ap (map value) (take-put_mid a k xs ys n (omega arith) inside) ∙ map-append value (take a xs) ys)
      ∙ get_or-append_right front (map value ys) a step other long le

  pub put_before : (step : ℕ) → step < a
      → get_or (map value (put_mid a k xs ys)) step other ≡ get_or (map value xs) step other
  put_before step lt =
      let at = λ (l : List X). sym (get_or-take a (map value l) step other lt) in
      at (put_mid a k xs ys)
      ∙ ap (λ l. get_or l step other) (take-map value a (put_mid a k xs ys)
      ∙ ap (map value) (take-put_mid_below a k xs ys a (omega arith) inside) ∙ sym (take-map value a xs))
      ∙ sym (at xs)

  pub put_after : (step : ℕ) → a + k ≤ step
      → get_or (map value (put_mid a k xs ys)) step other ≡ get_or (map value xs) step other
  put_after step le =
      let n = a + k in
      let here : step ≡ n + (step - n) = omega arith in
      let at = λ (l : List X). ap (λ i. get_or (map value l) i other) here
      ∙ sym (get_or-drop n (map value l) (step - n) other) in
      at (put_mid a k xs ys)
      ∙ ap (λ l. get_or l (step - n) other) (drop-map value n (put_mid a k xs ys)
      ∙ ap (map value) (drop-put_mid a k xs ys n (omega arith) inside same) ∙ sym (drop-map value n xs))
      ∙ sym (at xs)
