-- Lemmas on lists.
use Rattle.std.proofs.Common.{◌≡◌, ℕ, zero, suc, ◌+◌, ◌<◌, ◌≤◌, List, [], ◌∷◌, ◌++◌, length, map, refl, sym, ap, subst}
use Rattle.std.proofs.Common.{arith, Option, Some, None}
use Rattle.std.specs.List.{slice_get, range_with_len, enumerate_from}
use Rattle.std.specs.Option.{option_or}
use Rattle.std.proofs.lemmas.List.{append_assoc, append-nil}
use Rattle.pfs_base.specs.Lists.{first_some, last_of, all_but_last}

-- induction from the back: if the empty list has a property that one more last element keeps, each list has it
pub by_push : {A : Type 0} (P : List A → Type 0) → P [] → ((xs : List A) (x : A) → P xs → P (xs ++ x ∷ []))
    → (xs : List A) → P xs
by_push {A} P none more xs = go [] xs none
  where
    go : (front rest : List A) → P front → P (front ++ rest)
    go front [] h = subst P (sym (append-nil front)) h
    go front (x ∷ rest) h = subst P (append_assoc front (x ∷ []) rest) (go (front ++ x ∷ []) rest (more front x h))

-- a list that isn't empty is all but its last element, followed by that element
pub all_and_last : {A : Type 0} (other x : A) (more : List A)
    → x ∷ more ≡ all_but_last (x ∷ more) ++ last_of other (x ∷ more) ∷ []
all_and_last other x [] = refl
all_and_last other x (y ∷ more) = ap (λ ys. x ∷ ys) (all_and_last other y more)

pub all_but_last-push : {A : Type 0} (xs : List A) (y : A) → all_but_last (xs ++ y ∷ []) ≡ xs
all_but_last-push [] y = refl
all_but_last-push (x ∷ []) y = refl
all_but_last-push (x ∷ z ∷ xs) y = ap (λ ys. x ∷ ys) (all_but_last-push (z ∷ xs) y)

pub last_of-push : {A : Type 0} (other : A) (xs : List A) (y : A) → last_of other (xs ++ y ∷ []) ≡ y
last_of-push other [] y = refl
last_of-push other (x ∷ []) y = refl
last_of-push other (x ∷ z ∷ xs) y = last_of-push other (z ∷ xs) y

pub first_some-append : {A : Type 0} (xs ys : List (Option A))
    → first_some (xs ++ ys) ≡ option_or (first_some xs) (first_some ys)
first_some-append [] ys = refl
first_some-append (None ∷ xs) ys = first_some-append xs ys
first_some-append (Some x ∷ xs) ys = refl

-- a range with one more number, and an enumeration of two lists
pub range_with_len-push : (a n : ℕ) → range_with_len a (suc n) ≡ range_with_len a n ++ (a + n) ∷ []
range_with_len-push a zero = let e : a ≡ a + 0 = omega arith in ap (λ x. x ∷ []) e
range_with_len-push a (suc n) =
    let e : (a + 1) + n ≡ a + suc n = omega arith in ap (λ xs. a ∷ xs) (rw (← e) (range_with_len-push (a + 1) n))

pub enumerate_from-append : {A : Type 0} (a : ℕ) (xs ys : List A)
    → enumerate_from a (xs ++ ys) ≡ enumerate_from a xs ++ enumerate_from (a + length xs) ys
enumerate_from-append a [] ys = let e : a ≡ a + 0 = omega arith in ap (λ i. enumerate_from i ys) e
enumerate_from-append a (x ∷ xs) ys = let e : (a + 1) + length xs ≡ a + length (x ∷ xs) = omega arith in
    ap (λ ps. (a, x) ∷ ps) (rw (← e) (enumerate_from-append (a + 1) xs ys))

-- an element of the first of two lists, and the element after the first list
pub slice_get-append : {A : Type 0} (xs ys : List A) (i : ℕ) → i < length xs → slice_get (xs ++ ys) i ≡ slice_get xs i
slice_get-append [] ys i h = absurd (omega arith)
slice_get-append (x ∷ xs) ys zero h = refl
slice_get-append (x ∷ xs) ys (suc i) h = slice_get-append xs ys i (omega arith)

pub slice_get-push : {A : Type 0} (xs : List A) (y : A) → slice_get (xs ++ y ∷ []) (length xs) ≡ Some y
slice_get-push [] y = refl
slice_get-push (x ∷ xs) y = slice_get-push xs y

-- functions that agree on a range give the same list
pub map-range_with_len-same : {A : Type 0} (f g : ℕ → A) (a n : ℕ) → ((i : ℕ) → a ≤ i → i < a + n → f i ≡ g i)
    → map f (range_with_len a n) ≡ map g (range_with_len a n)
map-range_with_len-same f g a zero h = refl
map-range_with_len-same f g a (suc n) h =
    let here : f a ≡ g a = h a (omega arith) (omega arith) in
    let more : map f (range_with_len (a + 1) n) ≡ map g (range_with_len (a + 1) n) =
    map-range_with_len-same f g (a + 1) n (λ i low high. h i (omega arith) (omega arith)) in
    cc
