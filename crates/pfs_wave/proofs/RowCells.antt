-- The vectors of a shop's jobs.
use Rattle.std.proofs.Common.{◌≡◌, ℕ, zero, suc, ◌+◌, ◌*◌, ◌<◌, ◌≤◌, List, [], ◌∷◌, ◌++◌, length, map, get_or}
use Rattle.std.proofs.Common.{ap, ◌∙◌, sym, arith, inl, inr}
use Rattle.std.proofs.Math.Nat.{mul-le-mul_right}
use Rattle.std.proofs.lemmas.Bool.{cases_lt}
use Rattle.std.proofs.lemmas.List.{get_or_append_left, get_or_past, get_or_push, length-map, length_push, map-append}
use Rattle.pfs_base.specs.FlowShop.{FlowShop, IsWithin, time_of}
use Rattle.pfs_base.specs.Limits.{Limits}
use Rattle.pfs_wave.specs.Private.Blocks.{HasRows, step_of}
use Rattle.pfs_wave.specs.Private.Padded.{on_machine}
use Rattle.pfs_wave.proofs.PaddedTables.{on_inside, on_padding}
use Rattle.pfs_wave.proofs.SkewedTimes.{same_vector}
use Rattle.pfs_wave.proofs.StepTables.{step_after}

-- a lane of eight
pub lane_of_eight : (f : ℕ → ℕ) {a b c d e g h i : ℕ} → a ≡ f 0 → b ≡ f 1 → c ≡ f 2 → d ≡ f 3 → e ≡ f 4 → g ≡ f 5
    → h ≡ f 6 → i ≡ f 7 → (lane : ℕ) → lane < 8
    → get_or (a ∷ b ∷ c ∷ d ∷ e ∷ g ∷ h ∷ i ∷ []) lane 0 ≡ f lane
lane_of_eight f p q r s t u v w zero lt = p
lane_of_eight f p q r s t u v w (suc zero) lt = q
lane_of_eight f p q r s t u v w (suc (suc zero)) lt = r
lane_of_eight f p q r s t u v w (suc (suc (suc zero))) lt = s
lane_of_eight f p q r s t u v w (suc (suc (suc (suc zero)))) lt = t
lane_of_eight f p q r s t u v w (suc (suc (suc (suc (suc zero))))) lt = u
lane_of_eight f p q r s t u v w (suc (suc (suc (suc (suc (suc zero)))))) lt = v
lane_of_eight f p q r s t u v w (suc (suc (suc (suc (suc (suc (suc zero))))))) lt = w
lane_of_eight f p q r s t u v w (suc (suc (suc (suc (suc (suc (suc (suc lane)))))))) lt = absurd (omega arith)

-- a job after the last has no times
pub past_jobs : (limits : Limits) (shop : FlowShop) (job machine : ℕ) → IsWithin limits shop → shop.jobs ≤ job
    → on_machine shop (time_of shop job) machine ≡ 0
past_jobs limits shop job machine within le =
    elim (cases_lt machine shop.machines) [
      | inl inside ↦
          on_inside shop (time_of shop job) machine inside
          ∙ get_or_past shop.times (job * shop.machines + machine) 0
          (omega (arith, within.every_time, mul-le-mul_right shop.machines le))
      | inr padding ↦ on_padding shop (time_of shop job) machine padding
    ]

-- each vector so far has the times of its job
abbrev pub AreRowsSoFar : {X : Type 0} → (X → List ℕ) → FlowShop → ℕ → List X → Type 0
AreRowsSoFar lanes shop count rows =
    (job k lane : ℕ) → k < count → lane < 8 → job * count + k < length rows
    → get_or (step_of count (map lanes rows) job k) lane 0 ≡ on_machine shop (time_of shop job) (lane * count + k)

pub rows_more : {X : Type 0} (lanes : X → List ℕ) (shop : FlowShop) (count : ℕ) (rows : List X) (job k : ℕ) (new : X)
    → AreRowsSoFar lanes shop count rows → length rows ≡ job * count + k → k < count
    → ((lane : ℕ) → lane < 8 → get_or (lanes new) lane 0 ≡ on_machine shop (time_of shop job) (lane * count + k))
    → AreRowsSoFar lanes shop count (rows ++ new ∷ [])
rows_more lanes shop count rows job k new so_far long k_lt made other j lane j_lt lt inside =
    let at = other * count + j in
    let all = map-append lanes rows (new ∷ []) in
    let known = length-map rows lanes in
    elim (cases_lt at (length rows)) [
      | inl before ↦
          ap (λ l. get_or (get_or l at []) lane 0) all
          ∙ ap (λ v. get_or v lane 0)
          (get_or_append_left (map lanes rows) (lanes new ∷ []) [] at (omega (arith, known)))
          ∙ so_far other j lane j_lt lt before
      | inr last ↦
          let here : at ≡ job * count + k = omega (arith, length_push rows new) in
          let same = same_vector count other job j k j_lt k_lt here in
          ap (λ l. get_or (get_or l at []) lane 0) all
          ∙ ap (λ v. get_or v lane 0) (get_or_push (map lanes rows) (lanes new) [] at (known ∙ long ∙ sym here))
          ∙ rw (same.0, same.1) (made lane lt)
    ]

-- all of them
pub rows_all : {X : Type 0} (lanes : X → List ℕ) (limits : Limits) (shop : FlowShop) (count : ℕ) (rows : List X)
    → AreRowsSoFar lanes shop count rows → length rows ≡ shop.jobs * count + count → IsWithin limits shop
    → HasRows shop count (map lanes rows)
rows_all lanes limits shop count rows so_far long within = record {
  jobs_are = λ job lt lane k l_lt k_lt.
      so_far job k lane k_lt l_lt (omega (arith, step_after count job shop.jobs lt));
  none = λ lane k l_lt k_lt.
      so_far shop.jobs k lane k_lt l_lt (omega arith)
      ∙ past_jobs limits shop shop.jobs (lane * count + k) within (omega arith);
}
