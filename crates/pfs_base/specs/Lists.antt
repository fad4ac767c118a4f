-- Small functions on lists.
use Rattle.std.specs.Prelude.{ℕ, Bool, ◌==◌, List, [], ◌∷◌, length, Option, Some, None}
use Rattle.std.specs.List.{range_with_len}

-- the numbers 0, 1 and so on that are less than n
abbrev pub below : ℕ → List ℕ
below n = range_with_len 0 n

abbrev pub is_empty : {A : Type 0} → List A → Bool
is_empty xs = length xs == 0

-- the last element, or `other` of an empty list
abbrev pub last_of : {A : Type 0} → A → List A → A
last_of other [] = other
last_of other (x ∷ []) = x
last_of other (x ∷ y ∷ more) = last_of other (y ∷ more)

-- the list without its last element
abbrev pub all_but_last : {A : Type 0} → List A → List A
all_but_last [] = []
all_but_last (x ∷ []) = []
all_but_last (x ∷ y ∷ more) = x ∷ all_but_last (y ∷ more)

-- the first `Some`, or `None` if there is none
abbrev pub first_some : {A : Type 0} → List (Option A) → Option A
first_some [] = None
first_some (None ∷ more) = first_some more
first_some (Some x ∷ more) = Some x
