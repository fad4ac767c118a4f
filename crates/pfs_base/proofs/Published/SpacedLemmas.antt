-- Texts of n parts, and numbers with spaces between them.
use Rattle.std.proofs.Common.{◌≡◌, ℕ, zero, suc, ◌+◌, ◌<◌, List, [], ◌∷◌, ◌++◌, inl, inr, decimal, refl, sym, ◌∙◌, ap}
use Rattle.std.proofs.Common.{arith, append_assoc, append-nil, zero-add}
use Rattle.std.specs.List.{flat_map}
use Rattle.std.proofs.lemmas.Bool.Decides.{eqb_tells}
use Rattle.std.proofs.lemmas.Grind.{flat_map-append}
use Rattle.pfs_base.specs.Lists.{below}
use Rattle.pfs_base.specs.Text.{spaced}
use Rattle.pfs_base.proofs.Published.Lists.{range_with_len-push}
use Rattle.pfs_base.proofs.Published.Printing.{spaced-append}

-- a text with one more part
pub flat_map_more : (f : ℕ → List ℕ) (n : ℕ) → flat_map f (below (suc n)) ≡ flat_map f (below n) ++ f n
flat_map_more f n =
    ap (flat_map f) (range_with_len-push 0 n) ∙ flat_map-append f (below n) ((0 + n) ∷ [])
    ∙ ap (λ i. flat_map f (below n) ++ (f i ++ [])) (zero-add n)
    ∙ ap (λ part. flat_map f (below n) ++ part) (append-nil (f n))

-- the parts before one, the part itself, and the rest
pub flat_map_from : (f : ℕ → List ℕ) (k n : ℕ) → k < n
    → (rest : List ℕ) × (flat_map f (below n) ≡ (flat_map f (below k) ++ f k) ++ rest)
flat_map_from f k zero h = absurd (omega arith)
flat_map_from f k (suc n) h = elim (eqb_tells k n) [
  | inl last ↦ (
    [],
    flat_map_more f n ∙ ap (λ i. flat_map f (below i) ++ f i) (sym (last.1))
        ∙ sym (append-nil (flat_map f (below k) ++ f k)),
  )
  | inr before ↦
      let fewer : k < n = let apart = before.1 in omega arith in
      let parts = flat_map_from f k n fewer in (
        parts.0 ++ f n,
        flat_map_more f n ∙ ap (λ front. front ++ f n) (parts.1)
            ∙ append_assoc (flat_map f (below k) ++ f k) (parts.0) (f n),
      )
]

-- the first number, and a space before each of the others
pub spaced-cons : (n : ℕ) (ns : List ℕ) → spaced (n ∷ ns) ≡ decimal n ++ flat_map (λ m. 32 ∷ decimal m) ns
spaced-cons n ns = spaced-append n [] ns

-- pairs of numbers, with a space before each number
pub spaced_pairs : (one other : ℕ → ℕ) (ns : List ℕ)
    → flat_map (λ m. 32 ∷ decimal m) (flat_map (λ n. one n ∷ other n ∷ []) ns)
    ≡ flat_map (λ n. (32 ∷ decimal (one n)) ++ (32 ∷ decimal (other n))) ns
spaced_pairs one other [] = refl
spaced_pairs one other (n ∷ ns) =
    ap (λ text. (32 ∷ decimal (one n)) ++ ((32 ∷ decimal (other n)) ++ text)) (spaced_pairs one other ns)
    ∙ sym (append_assoc (32 ∷ decimal (one n)) (32 ∷ decimal (other n))
    (flat_map (λ m. (32 ∷ decimal (one m)) ++ (32 ∷ decimal (other m))) ns))
