-- Lanes up to a cap.
use Rattle.std.proofs.Common.{ℕ, zero, suc, ◌+◌, ◌*◌, ◌≤◌, List, [], ◌∷◌, length, arith}
use Rattle.std.proofs.Common.{inl, inr}
use Rattle.std.proofs.lemmas.Bool.{cases_lt}
use Rattle.std.proofs.lemmas.List.{get_or_past}
use Rattle.std.specs.List.{All}
use Rattle.pfs_base.specs.FlowShop.{FlowShop, time_of}
use Rattle.pfs_wave.specs.Private.Padded.{on_machine}
use Rattle.pfs_wave.proofs.PaddedTables.{on_inside, on_padding}

abbrev pub AreSmall : ℕ → List ℕ → Type 0
AreSmall cap lanes = All (λ value. value ≤ cap) lanes

module _ (cap : ℕ) where
  none_small : AreSmall cap []
  none_small k d less = absurd (omega (arith, less))

  cons_small : (x : ℕ) (xs : List ℕ) → x ≤ cap → AreSmall cap xs → AreSmall cap (x ∷ xs)
  cons_small x xs first rest zero d less = first
  cons_small x xs first rest (suc k) d less = rest k d (omega (arith, less))

  pub eight_small : {a b c d e f g h : ℕ} → a ≤ cap → b ≤ cap → c ≤ cap → d ≤ cap
      → e ≤ cap → f ≤ cap → g ≤ cap → h ≤ cap
      → AreSmall cap (a ∷ b ∷ c ∷ d ∷ e ∷ f ∷ g ∷ h ∷ [])
  eight_small {a} {b} {c} {d} {e} {f} {g} {h} la lb lc ld le lf lg lh =
      cons_small a (b ∷ c ∷ d ∷ e ∷ f ∷ g ∷ h ∷ []) la
      (cons_small b (c ∷ d ∷ e ∷ f ∷ g ∷ h ∷ []) lb
      (cons_small c (d ∷ e ∷ f ∷ g ∷ h ∷ []) lc
      (cons_small d (e ∷ f ∷ g ∷ h ∷ []) ld
      (cons_small e (f ∷ g ∷ h ∷ []) le
      (cons_small f (g ∷ h ∷ []) lf (cons_small g (h ∷ []) lg (cons_small h [] lh none_small)))))))

-- where no time of the shop is above the cap, no lane of a job's row is
pub machine_small : (shop : FlowShop) (job lane cap : ℕ) → AreSmall cap shop.times
    → on_machine shop (time_of shop job) lane ≤ cap
machine_small shop job lane cap small =
    let at = job * shop.machines + lane in
    elim (cases_lt lane shop.machines) [
      | inl inside ↦ elim (cases_lt at (length shop.times)) [
        | inl known ↦ omega (arith, on_inside shop (time_of shop job) lane inside, small at 0 known)
        | inr past ↦
            omega (arith, on_inside shop (time_of shop job) lane inside, get_or_past shop.times at 0 past)
      ]
      | inr padding ↦ omega (arith, on_padding shop (time_of shop job) lane padding)
    ]
