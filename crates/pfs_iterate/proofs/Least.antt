-- The first of the places from one on that is the best.
use Rattle.std.proofs.Common.{◌≡◌, ℕ, ◌+◌, ◌-◌, ◌<◌, ◌≤◌, Bool, true, false, get_or, eqb, leb, if◌then◌else◌, ◌∙◌, arith}
use Rattle.std.proofs.Common.{inl, inr, List, [], ◌∷◌, refl, sym, add-zero}
use Rattle.pfs_insert.specs.Insertion.{IsFirstLeast, first_least}
use Rattle.std.specs.List.{list_all, position_or_len, range_with_len}
use Rattle.std.proofs.lemmas.Bool.{cases_eq, cases_lt, cases_order, eq-eqb, le-leb, lt-leb, ne_eqb}
use Rattle.std.proofs.lemmas.List.FromFn.{length-range_with_len, get_or-range_with_len}
use Rattle.std.proofs.lemmas.List.Folds.{list_all_at}
use Rattle.std.proofs.lemmas.List.Sums.{list_all-from_AllPass, position_or_len_is}
use Rattle.pfs_iterate.specs.Iterated.{first_best}
use Rattle.pfs_iterate.specs.Private.Steps.{IsBestFrom, IsLeastFrom}

module _ (value tie : ℕ → ℕ) where
  abbrev is_as_good : ℕ → ℕ → Bool
  is_as_good place other = if eqb (value place) (value other) then leb (tie place) (tie other) else leb (value place) (value other)

  good : (place other : ℕ) → value place ≤ value other → (value other ≡ value place → tie place ≤ tie other)
      → is_as_good place other ≡ true
  good place other least tied =
      elim (cases_eq (value place) (value other)) [
        | inl same ↦ rw (eq-eqb (value place) (value other) same, le-leb (tie place) (tie other) (tied (omega arith))) refl
        | inr apart ↦ rw (ne_eqb (value place) (value other) apart, le-leb (value place) (value other) least) refl
      ]

  worse : (place other : ℕ) → value other ≤ value place → (value place ≡ value other → tie other < tie place)
      → is_as_good place other ≡ false
  worse place other least tied =
      elim (cases_eq (value place) (value other)) [
        | inl same ↦ rw (eq-eqb (value place) (value other) same, lt-leb (tie place) (tie other) (tied same)) refl
        | inr apart ↦ rw (ne_eqb (value place) (value other) apart, lt-leb (value place) (value other) (omega (arith, apart))) refl
      ]

  pub first_best_is : (held count place : ℕ) → IsBestFrom value tie held count place
      → place ≡ first_best value tie held count
  first_best_is held count place is =
      let from = is.from in
      let within = is.within in
      let places = range_with_len held (count - held) in
      let long = length-range_with_len held (count - held) in
      let here : get_or places (place - held) 0 ≡ place =
      get_or-range_with_len held (count - held) (place - held) 0 (omega arith) ∙ omega arith in
      let found = position_or_len_is (λ p. list_all (λ other. is_as_good p other) places) places (place - held) 0 (omega (arith, long))
      (λ k before. list_all_at (λ other. is_as_good (get_or places k 0) other) places (place - held) 0 (omega (arith, long))
      (rw (here, get_or-range_with_len held (count - held) k 0 (omega arith))
      (worse (held + k) place (is.least (held + k) (omega arith) (omega arith))
      (is.first (held + k) (omega arith) (omega arith)))))
      (λ _. list_all-from_AllPass (λ other. is_as_good (get_or places (place - held) 0) other) places (λ k d small.
      let below : k < count - held = omega (arith, long) in
      rw (here, get_or-range_with_len held (count - held) k d below)
      (good place (held + k) (is.least (held + k) (omega arith) (omega arith))
      (is.tied (held + k) (omega arith) (omega arith))))) in
      omega (arith, found)

  -- a place that alone has the least value
  pub alone_best : (held count place last : ℕ) → IsLeastFrom value held count place last → last ≡ place
      → IsBestFrom value tie held count place
  alone_best held count place last is alone = record {
    from = is.from;
    within = omega (arith, is.within, is.last_within);
    least = is.least;
    tied = λ other behind small same. elim (cases_order other place) [
      | inl here ↦ rw here (omega arith)
      | inr (inl before) ↦ absurd (omega (arith, is.first other behind before))
      | inr (inr after) ↦ absurd (omega (arith, is.later other (omega arith) small))
    ];
    first = λ other behind before same. absurd (omega (arith, is.first other behind before));
  }

  -- the first place of the least value, where no `tie` decides
  pub plain_best : (held count place last : ℕ) → IsLeastFrom value held count place last → ((p : ℕ) → tie p ≡ 0)
      → IsBestFrom value tie held count place
  plain_best held count place last is none = record {
    from = is.from;
    within = omega (arith, is.within, is.last_within);
    least = is.least;
    tied = λ other behind small same. omega (arith, none place);
    first = λ other behind before same. absurd (omega (arith, is.first other behind before));
  }

  -- the first of all places of the least value, where it is from `held` on and no `tie` decides
  pub behind_best : (held count place : ℕ) → IsFirstLeast value count place → held ≤ place → ((p : ℕ) → tie p ≡ 0)
      → IsBestFrom value tie held count place
  behind_best held count place is behind none = record {
    from = behind;
    within = is.within;
    least = λ other from small. is.least other small;
    tied = λ other from small same. omega (arith, none place);
    first = λ other from before same. absurd (omega (arith, is.first other before));
  }

  -- the best place so far, with one more place
  pub next_better : (held count place : ℕ) → IsBestFrom value tie held count place → value count ≡ value place
      → tie count < tie place → IsBestFrom value tie held (count + 1) count
  next_better held count place is same less = record {
    from = omega (arith, is.from, is.within);
    within = omega arith;
    least = λ other behind small. elim (cases_lt other count) [
      | inl before ↦ omega (arith, same, is.least other behind before)
      | inr here ↦ let at : other ≡ count = omega arith in rw at (omega arith)
    ];
    tied = λ other behind small equal. elim (cases_lt other count) [
      | inl before ↦ omega (arith, less, is.tied other behind before (equal ∙ same))
      | inr here ↦ let at : other ≡ count = omega arith in rw at (omega arith)
    ];
    first = λ other behind before equal. omega (arith, less, is.tied other behind before (equal ∙ same));
  }

  pub next_no_better : (held count place : ℕ) → IsBestFrom value tie held count place → value place ≤ value count
      → (value count ≡ value place → tie place ≤ tie count) → IsBestFrom value tie held (count + 1) place
  next_no_better held count place is least tied = record {
    from = is.from;
    within = omega (arith, is.within);
    least = λ other behind small. elim (cases_lt other count) [
      | inl before ↦ is.least other behind before
      | inr here ↦ let at : other ≡ count = omega arith in rw at least
    ];
    tied = λ other behind small equal. elim (cases_lt other count) [
      | inl before ↦ is.tied other behind before equal
      | inr here ↦ let at : other ≡ count = omega arith in rw at (tied (rw at at equal))
    ];
    first = is.first;
  }

  -- no place after the last one is as good
  pub best_of_all : (held count place last found : ℕ) → IsLeastFrom value held count place last → value found ≡ value place
      → IsBestFrom value tie held (last + 1) found → IsBestFrom value tie held count found
  best_of_all held count place last found least same is = record {
    from = is.from;
    within = omega (arith, is.within, least.last_within);
    least = λ other behind small. omega (arith, same, least.least other behind small);
    tied = λ other behind small equal. elim (cases_lt last other) [
      | inl after ↦ absurd (omega (arith, same, equal, least.later other after small))
      | inr before ↦ is.tied other behind (omega arith) equal
    ];
    first = is.first;
  }

-- of other functions with the same values
pub best_same : (value tie other also : ℕ → ℕ) (held count place : ℕ) → ((k : ℕ) → k < count → value k ≡ other k)
    → ((k : ℕ) → k < count → tie k ≡ also k) → IsBestFrom value tie held count place → IsBestFrom other also held count place
best_same value tie other also held count place same tie_same is =
    let within = is.within in
    let here = same place within in
    let tie_here = tie_same place within in
    record {
      from = is.from;
      within = within;
      least = λ k behind small. omega (arith, here, same k small, is.least k behind small);
      tied = λ k behind small equal. omega (
        arith,
        tie_here,
        tie_same k small,
        is.tied k behind small
            (omega (arith, here, same k small)),
      );
      first = λ k behind before equal. omega (
        arith,
        tie_here,
        tie_same k (omega arith),
        is.first k behind before
            (omega (arith, here, same k (omega arith))),
      );
    }

-- ---- without a tie break

all_same : (p q : ℕ → Bool) (xs : List ℕ) → ((x : ℕ) → p x ≡ q x) → list_all p xs ≡ list_all q xs
all_same p q [] same = refl
all_same p q (x ∷ xs) same = rw (same x, all_same p q xs same) refl

position_same : (p q : ℕ → Bool) (xs : List ℕ) → ((x : ℕ) → p x ≡ q x) → position_or_len p xs ≡ position_or_len q xs
position_same p q [] same = refl
position_same p q (x ∷ xs) same = rw (same x, position_same p q xs same) refl

none_as_good : (value tie : ℕ → ℕ) (place other : ℕ) → ((p : ℕ) → tie p ≡ 0)
    → is_as_good value tie place other ≡ leb (value place) (value other)
none_as_good value tie place other none =
    elim (cases_eq (value place) (value other)) [
      | inl same ↦
          rw (eq-eqb (value place) (value other) same, le-leb (tie place) (tie other) (omega (arith, none place)))
          (sym (le-leb (value place) (value other) (omega arith)))
      | inr apart ↦ rw (ne_eqb (value place) (value other) apart) refl
    ]

pub first_best-none : (value tie : ℕ → ℕ) (count : ℕ) → ((p : ℕ) → tie p ≡ 0)
    → first_best value tie 0 count ≡ first_least value count
first_best-none value tie count none =
    let places = range_with_len 0 count in
    let all : count - 0 ≡ count = omega arith in
    rw (all, add-zero) (position_same (λ p. list_all (λ other. is_as_good value tie p other) places)
    (λ p. list_all (λ other. leb (value p) (value other)) places) places
    (λ p. all_same (λ other. is_as_good value tie p other) (λ other. leb (value p) (value other)) places
    (λ other. none_as_good value tie p other none)))
