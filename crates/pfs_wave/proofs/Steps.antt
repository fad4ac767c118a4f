-- A lane of each step.
use Rattle.std.proofs.Common.{ℕ, suc, ◌≡◌, ◌-◌, ◌<◌, ◌≤◌, List, [], ◌∷◌, ◌++◌, length, drop, get_or, refl, ap}
use Rattle.std.proofs.Common.{◌∙◌, sym, arith, inl, inr}
use Rattle.std.specs.Simd.Lanes.{zip2}
use Rattle.std.proofs.lemmas.Bool.{cases_lt}
use Rattle.std.proofs.lemmas.Simd.{get_or-zip2}
use Rattle.std.proofs.lemmas.List.{length-drop, get_or_append_left, get_or_past, get_or-append_right}
use Rattle.std.proofs.lemmas.List.{get_or-replicate}
use Rattle.std.proofs.lemmas.Grind.{get_or_after_one}
use Rattle.pfs_wave.specs.Private.Lanes.{zeros}

pub zeros-get_or : (width lane : ℕ) → lane < width → get_or (zeros width) lane 0 ≡ 0
zeros-get_or width lane lt = get_or-replicate width lane 0 0 lt

length-zip2_le : (f : ℕ → ℕ → ℕ) (a b : List ℕ) → length b ≤ length a → length (zip2 f a b) ≡ length b
length-zip2_le f [] [] le = refl
length-zip2_le f [] (y ∷ b) le = absurd (omega arith)
length-zip2_le f (x ∷ a) [] le = refl
length-zip2_le f (x ∷ a) (y ∷ b) le = ap suc (length-zip2_le f a b (omega arith))

module _ (width : ℕ) where
  pub down_next : (v : List ℕ) (lane : ℕ) → length v ≡ width → lane < width
      → get_or (drop 1 v ++ (0 ∷ [])) lane 0 ≡ get_or v (suc lane) 0
  down_next v lane wide lt =
      let long = length-drop 1 v in
      elim (cases_lt (suc lane) width) [
        | inl inside ↦
            get_or_append_left (drop 1 v) (0 ∷ []) 0 lane (omega arith) ∙ get_or_after_one v lane 0
            ∙ ap (λ i. get_or v i 0) (omega arith)
        | inr last ↦
            let seam : lane - lane ≡ 0 = omega arith in
            get_or-append_right (drop 1 v) (0 ∷ []) lane lane 0 (omega arith) (omega arith)
            ∙ ap (λ i. get_or (0 ∷ []) i 0) seam ∙ sym (get_or_past v (suc lane) 0 (omega arith))
      ]

  pub length-zip : (f : ℕ → ℕ → ℕ) (a b : List ℕ) → width ≤ length a → length b ≡ width → length (zip2 f a b) ≡ width
  length-zip f a b p q = length-zip2_le f a b (omega arith) ∙ q

  pub zip_lane : (f : ℕ → ℕ → ℕ) (a b : List ℕ) (lane : ℕ) → width ≤ length a → length b ≡ width → lane < width
      → get_or (zip2 f a b) lane 0 ≡ f (get_or a lane 0) (get_or b lane 0)
  zip_lane f a b lane p q lt = get_or-zip2 f a b lane 0 0 0 (omega arith) (omega arith)
