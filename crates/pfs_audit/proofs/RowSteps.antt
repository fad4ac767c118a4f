-- A loop that writes a row, place by place.
use Rattle.std.proofs.Common.{◌≡◌, ◌≢◌, ℕ, ◌+◌, ◌<◌, ◌≤◌, List, length, get_or, set, ap, ◌∙◌, inl, inr, arith}
use Rattle.std.proofs.lemmas.Bool.{cases_eq}
use Rattle.std.proofs.lemmas.List.{get_or-set_same, get_or-set_other}

module _ {X : Type 0} (number : X → ℕ) (items : List X) (at : ℕ) (x : X) (within : at < length items) where
  -- the entries before `at` and the one that is written at it
  pub written_more : (f : ℕ → ℕ) → ((k : ℕ) (d : X) → k < at → number (get_or items k d) ≡ f k) → number x ≡ f at
      → (k : ℕ) (d : X) → k < at + 1 → number (get_or (set items at x) k d) ≡ f k
  written_more f before here k d below = elim (cases_eq k at) [
    | inl is ↦ rw is (ap number (get_or-set_same items at x d within) ∙ here)
    | inr other ↦ ap number (get_or-set_other items at k x d other) ∙ before k d (omega arith)
  ]

  -- the entries after it are unchanged
  pub written_rest : (f : ℕ → ℕ) (size : ℕ) → ((k : ℕ) (d : X) → at ≤ k → k < size → number (get_or items k d) ≡ f k)
      → (k : ℕ) (d : X) → at + 1 ≤ k → k < size → number (get_or (set items at x) k d) ≡ f k
  written_rest f size after k d above lt =
      let other : k ≢ at = omega arith in
      ap number (get_or-set_other items at k x d other) ∙ after k d (omega arith) lt
