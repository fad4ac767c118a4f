-- The weight of the heaviest path, by its first step and by its last.
use Rattle.std.proofs.Common.{◌≡◌, ℕ, zero, suc, ◌+◌, ◌-◌, ◌≤◌, max, List, [], ◌∷◌, ◌++◌, map, refl, sym, ap, ◌∙◌}
use Rattle.std.proofs.Common.{inl, inr, arith}
use Rattle.std.proofs.Math.Nat.{add-suc, add-zero, suc-add}
use Rattle.std.proofs.lemmas.Bool.{cases_lt}
use Rattle.std.specs.List.{fold, range_with_len}
use Rattle.std.proofs.lemmas.List.{map-append}
use Rattle.std.proofs.lemmas.List.Sums.{sum_by-cons, fold-append}
use Rattle.pfs_base.specs.Paths.{Cell, Path, here, down, on, weight, paths, greatest, heaviest, IsHeaviest}

-- ---- the greatest of a list

greatest_from : (a : ℕ) (xs : List ℕ) → fold max a xs ≡ max a (greatest xs)
greatest_from a [] = omega arith
greatest_from a (x ∷ xs) = let p = greatest_from (max a x) xs in let q = greatest_from (max 0 x) xs in omega arith

pub greatest-cons : (x : ℕ) (xs : List ℕ) → greatest (x ∷ xs) ≡ max x (greatest xs)
greatest-cons x xs = let p = greatest_from (max 0 x) xs in omega arith

pub greatest-append : (xs ys : List ℕ) → greatest (xs ++ ys) ≡ max (greatest xs) (greatest ys)
greatest-append xs ys = fold-append max 0 xs ys ∙ greatest_from (greatest xs) ys

module _ (weigh : ℕ → ℕ → ℕ) where
  -- one cell before each of some paths
  greatest_after : (row machine : ℕ) (path : List Cell) (others : List (List Cell)) →
      greatest (map (weight weigh) (map (λ p. (row, machine) ∷ p) (path ∷ others)))
      ≡ weigh row machine + greatest (map (weight weigh) (path ∷ others))
  greatest_after row machine path [] =
      let a = sum_by-cons (λ (c : Cell). weigh c.0 c.1) (row, machine) path in
      omega (arith, greatest-cons (weight weigh ((row, machine) ∷ path)) [], greatest-cons (weight weigh path) [])
  greatest_after row machine path (other ∷ others) =
      let a = sum_by-cons (λ (c : Cell). weigh c.0 c.1) (row, machine) path in
      let rest = greatest_after row machine other others in
      omega (
        arith,
        greatest-cons (weight weigh ((row, machine) ∷ path))
            (map (weight weigh) (map (λ p. (row, machine) ∷ p) (other ∷ others))),
        greatest-cons (weight weigh path) (map (weight weigh) (other ∷ others)),
      )

-- a list of at least one path
abbrev IsSome : List (List Cell) → Type 0
IsSome all = (path : List Cell) × (others : List (List Cell)) × (all ≡ path ∷ others)

after_some : (row machine : ℕ) (all : List (List Cell)) → IsSome all → IsSome (map (λ p. (row, machine) ∷ p) all)
after_some row machine all (path, others, is) =
    ((row, machine) ∷ path, map (λ p. (row, machine) ∷ p) others, ap (map (λ p. (row, machine) ∷ p)) is)

append_some : (all more : List (List Cell)) → IsSome all → IsSome (all ++ more)
append_some all more (path, others, is) = (path, others ++ more, ap (λ l. l ++ more) is)

paths_some : (downs ons row machine : ℕ) → IsSome (paths downs ons row machine)
paths_some zero zero row machine = ((row, machine) ∷ [], [], refl)
paths_some zero (suc ons) row machine = after_some row machine _ (paths_some zero ons row (suc machine))
paths_some (suc downs) zero row machine = after_some row machine _ (paths_some downs zero (suc row) machine)
paths_some (suc downs) (suc ons) row machine =
    after_some row machine _ (append_some _ (paths (suc downs) ons row (suc machine))
    (paths_some downs (suc ons) (suc row) machine))

module _ (weigh : ℕ → ℕ → ℕ) where
  -- the weight of the heaviest path that goes `downs` rows down and `ons` machines further
  abbrev pub most : ℕ → ℕ → ℕ → ℕ → ℕ
  most downs ons row machine = greatest (map (weight weigh) (paths downs ons row machine))

  greatest_after_some : (row machine : ℕ) (all : List (List Cell)) → IsSome all →
      greatest (map (weight weigh) (map (λ p. (row, machine) ∷ p) all))
      ≡ weigh row machine + greatest (map (weight weigh) all)
  greatest_after_some row machine all (path, others, is) =
      rw is (greatest_after weigh row machine path others)

  -- ---- by the first step

  pub most_here : (row machine : ℕ) → most zero zero row machine ≡ weigh row machine
  most_here row machine = greatest-cons (weight weigh ((row, machine) ∷ [])) [] ∙ omega arith

  pub most_on : (ons row machine : ℕ)
      → most zero (suc ons) row machine ≡ weigh row machine + most zero ons row (suc machine)
  most_on ons row machine = greatest_after_some row machine _ (paths_some zero ons row (suc machine))

  pub most_down : (downs row machine : ℕ)
      → most (suc downs) zero row machine ≡ weigh row machine + most downs zero (suc row) machine
  most_down downs row machine = greatest_after_some row machine _ (paths_some downs zero (suc row) machine)

  pub most_first : (downs ons row machine : ℕ)
      → most (suc downs) (suc ons) row machine
      ≡ weigh row machine + max (most downs (suc ons) (suc row) machine) (most (suc downs) ons row (suc machine))
  most_first downs ons row machine =
      let below = paths downs (suc ons) (suc row) machine in
      let beside = paths (suc downs) ons row (suc machine) in
      greatest_after_some row machine (below ++ beside)
      (append_some below beside (paths_some downs (suc ons) (suc row) machine))
      ∙ ap (λ x. weigh row machine + x) (ap greatest (map-append (weight weigh) below beside)
      ∙ greatest-append (map (weight weigh) below) (map (weight weigh) beside))

  -- ---- by the last step, which ends at the cell (r, m)

  pub most_on_last : (ons row machine r m : ℕ) → r ≡ row → m ≡ machine + suc ons
      → most zero (suc ons) row machine ≡ most zero ons row machine + weigh r m
  most_on_last zero row machine r m p q =
      let e = most_on zero row machine in
      let f = most_here row (suc machine) in
      let h = most_here row machine in
      let at_end : weigh r m ≡ weigh row (suc machine) = ap (λ x. weigh x m) p ∙ ap (weigh row) (omega arith) in
      omega arith
  most_on_last (suc ons) row machine r m p q =
      let e = most_on (suc ons) row machine in
      let f = most_on ons row machine in
      let rest = most_on_last ons row (suc machine) r m p (omega arith) in
      omega arith

  pub most_down_last : (downs row machine r m : ℕ) → r ≡ row + suc downs → m ≡ machine
      → most (suc downs) zero row machine ≡ most downs zero row machine + weigh r m
  most_down_last zero row machine r m p q =
      let e = most_down zero row machine in
      let f = most_here (suc row) machine in
      let h = most_here row machine in
      let at_end : weigh r m ≡ weigh (suc row) machine =
      ap (λ x. weigh r x) q ∙ ap (λ x. weigh x machine) (omega arith) in
      omega arith
  most_down_last (suc downs) row machine r m p q =
      let e = most_down (suc downs) row machine in
      let f = most_down downs row machine in
      let rest = most_down_last downs (suc row) machine r m (omega arith) q in
      omega arith

  pub most_last : (downs ons row machine r m : ℕ) → r ≡ row + suc downs → m ≡ machine + suc ons →
      most (suc downs) (suc ons) row machine
      ≡ max (most downs (suc ons) row machine) (most (suc downs) ons row machine) + weigh r m
  most_last zero zero row machine r m p q =
      let e = most_first zero zero row machine in
      let f = most_on_last zero (suc row) machine r m (omega arith) q in
      let g = most_down_last zero row (suc machine) r m p (omega arith) in
      let h = most_on zero row machine in
      let i = most_down zero row machine in
      omega arith
  most_last zero (suc ons) row machine r m p q =
      let e = most_first zero (suc ons) row machine in
      let f = most_on_last (suc ons) (suc row) machine r m (omega arith) q in
      let g = most_last zero ons row (suc machine) r m p (omega arith) in
      let h = most_on (suc ons) row machine in
      let i = most_first zero ons row machine in
      omega arith
  most_last (suc downs) zero row machine r m p q =
      let e = most_first (suc downs) zero row machine in
      let f = most_last downs zero (suc row) machine r m (omega arith) q in
      let g = most_down_last (suc downs) row (suc machine) r m p (omega arith) in
      let h = most_first downs zero row machine in
      let i = most_down (suc downs) row machine in
      omega arith
  most_last (suc downs) (suc ons) row machine r m p q =
      let e = most_first (suc downs) (suc ons) row machine in
      let f = most_last downs (suc ons) (suc row) machine r m (omega arith) q in
      let g = most_last (suc downs) ons row (suc machine) r m p (omega arith) in
      let h = most_first downs (suc ons) row machine in
      let i = most_first (suc downs) ons row machine in
      omega arith

  -- ---- that it is the heaviest

  weight-cons : (row machine : ℕ) (path : List Cell)
      → weight weigh ((row, machine) ∷ path) ≡ weigh row machine + weight weigh path
  weight-cons row machine path = sum_by-cons (λ (c : Cell). weigh c.0 c.1) (row, machine) path

  abbrev HasPath : ℕ → ℕ → ℕ → ℕ → ℕ → Type 0
  HasPath row machine r m total = (path : List Cell) × Path row machine r m path × (weight weigh path ≡ total)

  has_down : (row machine r m total more : ℕ) → HasPath (suc row) machine r m total → more ≡ weigh row machine + total
      → HasPath row machine r m more
  has_down row machine r m total more (path, is, w) e =
      let f = weight-cons row machine path in ((row, machine) ∷ path, down is, omega arith)

  has_on : (row machine r m total more : ℕ) → HasPath row (suc machine) r m total → more ≡ weigh row machine + total
      → HasPath row machine r m more
  has_on row machine r m total more (path, is, w) e =
      let f = weight-cons row machine path in ((row, machine) ∷ path, on is, omega arith)

  has_larger : (row machine r m a b more : ℕ) → HasPath (suc row) machine r m a → HasPath row (suc machine) r m b
      → more ≡ weigh row machine + max a b → HasPath row machine r m more
  has_larger row machine r m a b more below beside e =
      elim (cases_lt a b) [
        | inl less ↦ has_on row machine r m b more beside (omega arith)
        | inr most ↦ has_down row machine r m a more below (omega arith)
      ]

  pub most_is_some : (downs ons row machine r m : ℕ) → r ≡ row + downs → m ≡ machine + ons
      → HasPath row machine r m (most downs ons row machine)
  most_is_some zero zero row machine r m p q =
      let f = weight-cons row machine [] in
      let g = most_here row machine in
      let at_row : r ≡ row = omega arith in
      let at_machine : m ≡ machine = omega arith in
      rw (at_row, at_machine) ((row, machine) ∷ [], here, omega arith)
  most_is_some zero (suc ons) row machine r m p q =
      has_on row machine r m _ _ (most_is_some zero ons row (suc machine) r m p (omega arith)) (most_on ons row machine)
  most_is_some (suc downs) zero row machine r m p q =
      has_down row machine r m _ _ (most_is_some downs zero (suc row) machine r m (omega arith) q)
      (most_down downs row machine)
  most_is_some (suc downs) (suc ons) row machine r m p q =
      has_larger row machine r m _ _ _ (most_is_some downs (suc ons) (suc row) machine r m (omega arith) q)
      (most_is_some (suc downs) ons row (suc machine) r m p (omega arith)) (most_first downs ons row machine)

  -- a path never goes up or back
  pub path_goes : {row machine r m : ℕ} {path : List Cell} → Path row machine r m path → (row ≤ r) × (machine ≤ m)
  path_goes here = (omega arith, omega arith)
  path_goes (down rest) = let h = path_goes rest in (omega arith, omega arith)
  path_goes (on rest) = let h = path_goes rest in (omega arith, omega arith)

  pub none_above_most : {row machine r m : ℕ} {path : List Cell} → Path row machine r m path → (downs ons : ℕ)
      → r ≡ row + downs → m ≡ machine + ons → weight weigh path ≤ most downs ons row machine
  none_above_most {row} {machine} here zero zero p q =
      let f = weight-cons row machine [] in let g = most_here row machine in omega arith
  none_above_most here zero (suc ons) p q = absurd (omega arith)
  none_above_most here (suc downs) ons p q = absurd (omega arith)
  none_above_most (down rest) zero ons p q = let h = path_goes rest in absurd (omega arith)
  none_above_most {row} {machine} (down {path = path} rest) (suc downs) zero p q =
      let f = weight-cons row machine path in
      let g = most_down downs row machine in
      let h = none_above_most rest downs zero (omega arith) q in
      omega arith
  none_above_most {row} {machine} (down {path = path} rest) (suc downs) (suc ons) p q =
      let f = weight-cons row machine path in
      let g = most_first downs ons row machine in
      let h = none_above_most rest downs (suc ons) (omega arith) q in
      omega arith
  none_above_most (on rest) downs zero p q = let h = path_goes rest in absurd (omega arith)
  none_above_most {row} {machine} (on {path = path} rest) zero (suc ons) p q =
      let f = weight-cons row machine path in
      let g = most_on ons row machine in
      let h = none_above_most rest zero ons p (omega arith) in
      omega arith
  none_above_most {row} {machine} (on {path = path} rest) (suc downs) (suc ons) p q =
      let f = weight-cons row machine path in
      let g = most_first downs ons row machine in
      let h = none_above_most rest (suc downs) ons p (omega arith) in
      omega arith

  -- `heaviest` is the weight of a path that none exceeds
  pub heaviest_law : (row machine r m : ℕ) → row ≤ r → machine ≤ m
      → IsHeaviest weigh row machine r m (heaviest weigh row machine r m)
  heaviest_law row machine r m p q =
      let rows : r ≡ row + (r - row) = omega arith in
      let machines : m ≡ machine + (m - machine) = omega arith in
      record {
        some_path = most_is_some (r - row) (m - machine) row machine r m rows machines;
        no_heavier = λ path is. none_above_most is (r - row) (m - machine) rows machines;
      }

at_first : (weigh other : ℕ → ℕ → ℕ) (row moved machine : ℕ) → weigh (row + 0) machine ≡ other (moved + 0) machine
    → weigh row machine ≡ other moved machine
at_first weigh other row moved machine same =
    rw (add-zero row, add-zero moved) at same

below : (weigh other : ℕ → ℕ → ℕ) (downs row moved : ℕ)
    → ((k m : ℕ) → k ≤ suc downs → weigh (row + k) m ≡ other (moved + k) m) → (k m : ℕ) → k ≤ downs
    → weigh (suc row + k) m ≡ other (suc moved + k) m
below weigh other downs row moved same k m le =
    rw (suc-add row k, suc-add moved k, ← add-suc row k, ← add-suc moved k) (same (suc k) m (omega arith))

-- equal weights on other rows give an equally heavy heaviest path
pub most_moved : (weigh other : ℕ → ℕ → ℕ) (downs ons row moved machine : ℕ)
    → ((k m : ℕ) → k ≤ downs → weigh (row + k) m ≡ other (moved + k) m) →
    most weigh downs ons row machine ≡ most other downs ons moved machine
most_moved weigh other zero zero row moved machine same =
    let here = at_first weigh other row moved machine (same 0 machine (omega arith)) in
    most_here weigh row machine ∙ here ∙ sym (most_here other moved machine)
most_moved weigh other zero (suc ons) row moved machine same =
    let here = at_first weigh other row moved machine (same 0 machine (omega arith)) in
    let rest = most_moved weigh other zero ons row moved (suc machine) same in
    let a = most_on weigh ons row machine in
    let b = most_on other ons moved machine in
    omega arith
most_moved weigh other (suc downs) zero row moved machine same =
    let here = at_first weigh other row moved machine (same 0 machine (omega arith)) in
    let rest =
    most_moved weigh other downs zero (suc row) (suc moved) machine (below weigh other downs row moved same) in
    let a = most_down weigh downs row machine in
    let b = most_down other downs moved machine in
    omega arith
most_moved weigh other (suc downs) (suc ons) row moved machine same =
    let here = at_first weigh other row moved machine (same 0 machine (omega arith)) in
    let under =
    most_moved weigh other downs (suc ons) (suc row) (suc moved) machine (below weigh other downs row moved same) in
    let beside = most_moved weigh other (suc downs) ons row moved (suc machine) same in
    let a = most_first weigh downs ons row machine in
    let b = most_first other downs ons moved machine in
    omega arith

-- ---- the greatest of some values

-- the greatest of f 0, f 1 and so on to f n
abbrev pub greatest_to : (ℕ → ℕ) → ℕ → ℕ
greatest_to f zero = f 0
greatest_to f (suc n) = max (f 0) (greatest_to (λ x. f (suc x)) n)

pub greatest_to_same : (f g : ℕ → ℕ) (n : ℕ) → ((x : ℕ) → x ≤ n → f x ≡ g x) → greatest_to f n ≡ greatest_to g n
greatest_to_same f g zero same = same 0 (omega arith)
greatest_to_same f g (suc n) same =
    let first = same 0 (omega arith) in
    let rest = greatest_to_same (λ x. f (suc x)) (λ x. g (suc x)) n (λ x le. same (suc x) (omega arith)) in
    omega arith

pub greatest_to_add : (w : ℕ) (f : ℕ → ℕ) (n : ℕ) → greatest_to (λ x. w + f x) n ≡ w + greatest_to f n
greatest_to_add w f zero = refl
greatest_to_add w f (suc n) = let rest = greatest_to_add w (λ x. f (suc x)) n in omega arith

pub greatest_to_max : (f g : ℕ → ℕ) (n : ℕ)
    → greatest_to (λ x. max (f x) (g x)) n ≡ max (greatest_to f n) (greatest_to g n)
greatest_to_max f g zero = refl
greatest_to_max f g (suc n) = let rest = greatest_to_max (λ x. f (suc x)) (λ x. g (suc x)) n in omega arith

-- of values that never fall, the last is the greatest
pub greatest_to_last : (f : ℕ → ℕ) (n : ℕ) → ((x : ℕ) → f x ≤ f (suc x)) → greatest_to f n ≡ f n
greatest_to_last f zero rises = refl
greatest_to_last f (suc n) rises =
    let rest = greatest_to_last (λ x. f (suc x)) n (λ x. rises (suc x)) in
    let low = rises_from f (suc n) rises in
    omega arith
  where
    rises_from : (f : ℕ → ℕ) (n : ℕ) → ((x : ℕ) → f x ≤ f (suc x)) → f 0 ≤ f n
    rises_from f zero rises = omega arith
    rises_from f (suc n) rises = let h = rises_from f n rises in let l = rises n in omega arith

pub greatest-map-range_with_len : (f : ℕ → ℕ) (from n : ℕ)
    → greatest (map f (range_with_len from (suc n))) ≡ greatest_to (λ x. f (from + x)) n
greatest-map-range_with_len f from zero =
    let a = greatest-cons (f from) [] in
    let b : f from ≡ f (from + 0) = ap f (omega arith) in
    omega arith
greatest-map-range_with_len f from (suc n) =
    let a = greatest-cons (f from) (map f (range_with_len (from + 1) (suc n))) in
    let b : f from ≡ f (from + 0) = ap f (omega arith) in
    let rest = greatest-map-range_with_len f (from + 1) n in
    let same = greatest_to_same (λ x. f (from + 1 + x)) (λ x. f (from + suc x)) n (λ x _. ap f (omega arith)) in
    omega arith

-- ---- a path leaves each row at one machine

most_at : (weigh : ℕ → ℕ → ℕ) {a b c d e f g h : ℕ} → a ≡ e → b ≡ f → c ≡ g → d ≡ h
    → most weigh a b c d ≡ most weigh e f g h
most_at weigh p q r s = cc

module _ (weigh : ℕ → ℕ → ℕ) (rest below last : ℕ) where
  -- the weight of the heaviest path from a machine of the row `below` to the end
  abbrev pub onward : ℕ → ℕ
  onward machine = most weigh rest (last - machine) below machine

  -- the weight of the heaviest path that leaves a row `x` machines further
  abbrev pub by_exit : ℕ → ℕ → ℕ → ℕ → ℕ
  by_exit downs row machine x = most weigh downs x row machine + onward (machine + x)

  onward_is : (ons row machine total : ℕ) → total ≡ rest → below ≡ suc row → last ≡ machine + ons
      → most weigh total ons (suc row) machine ≡ onward (machine + 0)
  onward_is ons row machine total t p q =
      let left : ons ≡ last - (machine + 0) = omega arith in
      let same : machine ≡ machine + 0 = omega arith in
      most_at weigh t left (sym p) same

  pub most_by_exit : (downs ons row machine total : ℕ) → total ≡ downs + rest → below ≡ row + suc downs
      → last ≡ machine + ons →
      most weigh (suc total) ons row machine ≡ greatest_to (by_exit downs row machine) ons
  most_by_exit zero zero row machine total t p q =
      let a = most_down weigh total row machine in
      let b = most_here weigh row machine in
      let c = onward_is zero row machine total (omega arith) (omega arith) q in
      omega arith
  most_by_exit zero (suc ons) row machine total t p q =
      let a = most_first weigh total ons row machine in
      let b = most_here weigh row machine in
      let c = onward_is (suc ons) row machine total (omega arith) (omega arith) q in
      let beside = most_by_exit zero ons row (suc machine) total t p (omega arith) in
      let later = greatest_to_same (λ x. by_exit zero row machine (suc x))
      (λ x. weigh row machine + by_exit zero row (suc machine) x) ons
      (λ x _. let e = most_on weigh x row machine in
      let f : onward (machine + suc x) ≡ onward (suc machine + x) = ap onward (omega arith) in omega arith)
      ∙ greatest_to_add (weigh row machine) (by_exit zero row (suc machine)) ons in
      omega arith
  most_by_exit (suc downs) ons row machine zero t p q = absurd (omega arith)
  most_by_exit (suc downs) zero row machine (suc total) t p q =
      let a = most_down weigh (suc total) row machine in
      let b = most_down weigh downs row machine in
      let under = most_by_exit downs zero (suc row) machine total (omega arith) (omega arith) q in
      omega arith
  most_by_exit (suc downs) (suc ons) row machine (suc total) t p q =
      let a = most_first weigh (suc total) ons row machine in
      let b = most_down weigh downs row machine in
      let under = most_by_exit downs (suc ons) (suc row) machine total (omega arith) (omega arith) q in
      let beside = most_by_exit (suc downs) ons row (suc machine) (suc total) t p (omega arith) in
      let g = λ (x : ℕ). by_exit downs (suc row) machine (suc x) in
      let h = by_exit (suc downs) row (suc machine) in
      let later = greatest_to_same (λ x. by_exit (suc downs) row machine (suc x))
      (λ x. weigh row machine + max (g x) (h x)) ons
      (λ x _. let e = most_first weigh downs x row machine in
      let f : onward (machine + suc x) ≡ onward (suc machine + x) = ap onward (omega arith) in omega arith)
      ∙ greatest_to_add (weigh row machine) (λ x. max (g x) (h x)) ons
      ∙ ap (λ n. weigh row machine + n) (greatest_to_max g h ons) in
      omega arith
