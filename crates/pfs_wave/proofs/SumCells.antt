-- The pass of the heads, the inserted rows and the sums, one vector after the other.
use Rattle.std.proofs.Common.{ℕ, zero, suc, ◌≡◌, ◌+◌, ◌-◌, ◌*◌, ◌<◌, ◌≤◌, List, ◌∷◌, length, map, take, get_or, slice_set, max}
use Rattle.std.proofs.Common.{ap, ◌∙◌, sym, refl, arith, inl, inr, subst}
use Rattle.std.proofs.lemmas.Bool.{cases_lt}
use Rattle.std.proofs.lemmas.List.{get_or-set_same, get_or-set_other, get_or-take, length-set}
use Rattle.pfs_wave.specs.Private.Lanes.{Holding, IsNext}
use Rattle.pfs_wave.specs.Private.Blocks.{Cells, Vectors, AreTimes, HoldCells, IsNoneBefore, IsRow, IsStep, step_of, vectors_of}
use Rattle.pfs_wave.specs.Private.Recurrences.{AreSummed, AreTables, TablesOfCells}
use Rattle.pfs_wave.proofs.StepTables.{set_same, set_other}
use Rattle.pfs_wave.proofs.TailCells.{changed, column_as}

-- the lanes of `new` are those before them in `old`, and 0 is in the first lane
pub record IsMoved (old new : List ℕ) : Type 0 where
  pub first : get_or new 0 0 ≡ 0
  pub next : (lane : ℕ) → suc lane < 8 → get_or new (suc lane) 0 ≡ get_or old lane 0

pub moved_up : (old new : List ℕ) → new ≡ 0 ∷ take 7 old → IsMoved old new
moved_up old new is = record {
  first = ap (λ l. get_or l 0 0) is;
  next = λ lane lt. ap (λ l. get_or l (suc lane) 0) is ∙ get_or-take 7 old lane 0 (omega arith);
}

-- the lanes of sums with a machine more
abbrev pub IsMore : Holding → List ℕ → List ℕ → List ℕ → List ℕ → Type 0
IsMore Holds sum inserted tail new =
    (lane a b c : ℕ) → lane < 8 → Holds (get_or sum lane 0) a → Holds (get_or inserted lane 0) b
    → Holds (get_or tail lane 0) c → Holds (get_or new lane 0) (max a (b + c))

-- ---- a step: the values of the first k vectors

pub record AreSumsSoFar {X : Type 0} (Holds : Holding) (lanes : X → List ℕ) (count rows step : ℕ) (t : TablesOfCells)
    (heads : List X) (inserted sum head : List ℕ) (k : ℕ) : Type 0 where
  pub inserted_is : (place lane : ℕ) → lane < 8 → place ≤ rows → place + lane ≡ step
      → Holds (get_or inserted lane 0) (t.inserted place (lane * count + k))
  pub sum_is : (place lane : ℕ) → lane < 8 → place ≤ rows → place + lane ≡ step
      → Holds (get_or sum lane 0) (t.sum place (lane * count + k))
  pub head_is : (lane : ℕ) → lane < 8 → suc step ≤ rows + lane
      → Holds (get_or head lane 0) (t.head (suc step - lane) (lane * count + k))
  pub done : (j lane : ℕ) → j < k → lane < 8 → suc step ≤ rows + lane
      → Holds (get_or (vectors_of (map lanes heads) j) lane 0) (t.head (suc step - lane) (lane * count + suc j))

pub record AreStepSums {X : Type 0} (Holds : Holding) (lanes : X → List ℕ) (count : ℕ)
    (times tails job before : Vectors) (inserted_before sum_before : List ℕ) (heads : List X) (inserted sum head : List ℕ) (k : ℕ) : Type 0 where
  pub long : length heads ≡ count
  pub rest : (j : ℕ) → k ≤ j → vectors_of (map lanes heads) j ≡ before j
  pub cells : (t : TablesOfCells) (rows step : ℕ) → AreTables rows t → IsStep Holds count step t.time times
      → IsNoneBefore count step times → IsStep Holds count step t.tail tails → IsRow count t.job job
      → AreSummed Holds count rows step t before inserted_before sum_before
      → AreSumsSoFar Holds lanes count rows step t heads inserted sum head k

module _ {X : Type 0} (Holds : Holding) (itself : (n : ℕ) → Holds n n) (lanes : X → List ℕ) (count : ℕ)
    (times tails job : Vectors) (some : 1 ≤ count) (before : Vectors) (inserted_before sum_before : List ℕ) where
  module _ (heads : List X) (last inserted sum head : List ℕ) (last_is : last ≡ before (count - 1))
      (p : IsMoved inserted_before inserted) (q : IsMoved sum_before sum) (r : IsMoved last head) where
    inserted_first : (t : TablesOfCells) (rows step : ℕ) → AreTables rows t
        → AreSummed Holds count rows step t before inserted_before sum_before → (place lane : ℕ) → lane < 8 → place ≤ rows
        → place + lane ≡ step → Holds (get_or inserted lane 0) (t.inserted place (lane * count + 0))
    inserted_first t rows step are summed place zero lt le all =
        let here : 0 ≡ 0 * count + 0 = omega arith in
        changed Holds p.first (sym (are.no_inserted place) ∙ ap (t.inserted place) here) (itself 0)
    inserted_first t rows step are summed place (suc lane) lt le all =
        let here : suc lane * count ≡ suc lane * count + 0 = omega arith in
        changed Holds (p.next lane lt) (ap (t.inserted place) here) (summed.inserted_is place lane (omega arith) le all)

    sum_first : (t : TablesOfCells) (rows step : ℕ) → AreTables rows t
        → AreSummed Holds count rows step t before inserted_before sum_before → (place lane : ℕ) → lane < 8 → place ≤ rows
        → place + lane ≡ step → Holds (get_or sum lane 0) (t.sum place (lane * count + 0))
    sum_first t rows step are summed place zero lt le all =
        let here : 0 ≡ 0 * count + 0 = omega arith in
        changed Holds q.first (sym (are.no_sum place) ∙ ap (t.sum place) here) (itself 0)
    sum_first t rows step are summed place (suc lane) lt le all =
        let here : suc lane * count ≡ suc lane * count + 0 = omega arith in
        changed Holds (q.next lane lt) (ap (t.sum place) here) (summed.sum_is place lane (omega arith) le all)

    head_first : (t : TablesOfCells) (rows step : ℕ) → AreTables rows t
        → AreSummed Holds count rows step t before inserted_before sum_before → (lane : ℕ) → lane < 8
        → suc step ≤ rows + lane → Holds (get_or head lane 0) (t.head (suc step - lane) (lane * count + 0))
    head_first t rows step are summed zero lt le =
        let here : 0 ≡ 0 * count + 0 = omega arith in
        changed Holds r.first (sym (are.no_head (suc step - 0)) ∙ ap (t.head (suc step - 0)) here) (itself 0)
    head_first t rows step are summed (suc lane) lt le =
        let here : lane * count + suc (count - 1) ≡ suc lane * count + 0 = omega arith in
        let row : step - lane ≡ suc step - suc lane = omega arith in
        changed Holds (r.next lane lt ∙ ap (λ v. get_or v lane 0) last_is)
        (ap (t.head (step - lane)) here ∙ ap (λ place. t.head place (suc lane * count + 0)) row)
        (summed.heads_are lane (count - 1) (omega arith) (omega arith) (omega arith))

    pub step_sums_none : length heads ≡ count → ((k : ℕ) → vectors_of (map lanes heads) k ≡ before k)
        → AreStepSums Holds lanes count times tails job before inserted_before sum_before heads inserted sum head 0
    step_sums_none long same = record {
      long = long;
      rest = λ j le. same j;
      cells = λ t rows step are times_are none tails_are job_is summed. record {
        inserted_is = inserted_first t rows step are summed;
        sum_is = sum_first t rows step are summed;
        head_is = head_first t rows step are summed;
        done = λ j lane lt. absurd (omega arith);
      };
    }

  module _ (heads : List X) (inserted sum head : List ℕ) (k : ℕ) (new : X) (new_inserted new_sum : List ℕ)
      (so_far : AreStepSums Holds lanes count times tails job before inserted_before sum_before heads inserted sum head k)
      (lt : k < count) (p : IsNext Holds inserted (vectors_of (map lanes heads) k) (job k) new_inserted)
      (q : IsMore Holds sum new_inserted (tails k) new_sum)
      (r : IsNext Holds head (vectors_of (map lanes heads) k) (times k) (lanes new)) where
    module _ (t : TablesOfCells) (rows step : ℕ) (are : AreTables rows t) (times_are : IsStep Holds count step t.time times)
        (none : IsNoneBefore count step times) (tails_are : IsStep Holds count step t.tail tails)
        (job_is : IsRow count t.job job) (summed : AreSummed Holds count rows step t before inserted_before sum_before)
        (so : AreSumsSoFar Holds lanes count rows step t heads inserted sum head k) where
      above : (lane : ℕ) → lane < 8 → step ≤ rows + lane
          → Holds (get_or (vectors_of (map lanes heads) k) lane 0) (t.head (step - lane) (suc (lane * count + k)))
      above lane lane_lt le =
          let next : lane * count + suc k ≡ suc (lane * count + k) = omega arith in
          changed Holds (ap (λ v. get_or v lane 0) (so_far.rest k (omega arith))) (ap (t.head (step - lane)) next)
          (summed.heads_are lane k lane_lt lt le)

      more : (lane : ℕ) → suc (lane * count + k) ≡ lane * count + (k + 1)
      more lane = omega arith

      inserted_more : (place lane : ℕ) → lane < 8 → place ≤ rows → place + lane ≡ step
          → Holds (get_or new_inserted lane 0) (t.inserted place (lane * count + (k + 1)))
      inserted_more place lane lane_lt le all =
          let row : step - lane ≡ place = omega arith in
          changed Holds refl (sym (are.next_inserted place (lane * count + k) le) ∙ ap (t.inserted place) (more lane))
          (p lane _ _ _ lane_lt (so.inserted_is place lane lane_lt le all)
          (changed Holds refl (ap (λ r. t.head r (suc (lane * count + k))) row) (above lane lane_lt (omega arith)))
          (changed Holds (job_is lane k lane_lt lt) refl (itself _)))

      sum_more : (place lane : ℕ) → lane < 8 → place ≤ rows → place + lane ≡ step
          → Holds (get_or new_sum lane 0) (t.sum place (lane * count + (k + 1)))
      sum_more place lane lane_lt le all =
          let machine = lane * count + k in
          changed Holds refl (sym (are.next_sum place machine le) ∙ ap (t.sum place) (more lane))
          (q lane _ _ _ lane_lt (so.sum_is place lane lane_lt le all)
          (changed Holds refl (ap (t.inserted place) (sym (more lane))) (inserted_more place lane lane_lt le all))
          (tails_are k lt place lane lane_lt all))

      head_more : (lane : ℕ) → lane < 8 → suc step ≤ rows + lane
          → Holds (get_or (lanes new) lane 0) (t.head (suc step - lane) (lane * count + (k + 1)))
      head_more lane lane_lt le =
          let machine = lane * count + k in
          let up = so.head_is lane lane_lt le in
          let left = above lane lane_lt (omega arith) in
          elim (cases_lt step lane) [
            | inl early ↦
                let row : suc step - lane ≡ 0 = omega arith in
                let row_above : step - lane ≡ 0 = omega arith in
                changed Holds refl (sym (are.first_head (lane * count + (k + 1)))
                ∙ ap (λ r. t.head r (lane * count + (k + 1))) (sym row))
                (r lane 0 0 0 lane_lt (changed Holds refl (ap (λ r. t.head r machine) row ∙ are.first_head machine) up)
                (changed Holds refl (ap (λ r. t.head r (suc machine)) row_above ∙ are.first_head (suc machine)) left)
                (changed Holds (none lane k lane_lt lt early) refl (itself 0)))
            | inr late ↦
                let row : suc step - lane ≡ suc (step - lane) = omega arith in
                changed Holds refl (sym (are.next_head (step - lane) machine (omega arith))
                ∙ ap (t.head (suc (step - lane))) (more lane) ∙ ap (λ r. t.head r (lane * count + (k + 1))) (sym row))
                (r lane _ _ _ lane_lt (changed Holds refl (ap (λ r. t.head r machine) row) up) left
                (times_are k lt (step - lane) lane lane_lt (omega arith)))
          ]

      head_done : (j lane : ℕ) → j < k + 1 → lane < 8 → suc step ≤ rows + lane
          → Holds (get_or (vectors_of (map lanes (slice_set heads k new)) j) lane 0)
          (t.head (suc step - lane) (lane * count + suc j))
      head_done j lane less lane_lt le =
          let long = so_far.long in
          elim (cases_lt j k) [
            | inl earlier ↦
                changed Holds (ap (λ v. get_or v lane 0) (set_other lanes heads k new j (omega arith))) refl
                (so.done j lane earlier lane_lt le)
            | inr last ↦
                let same : j ≡ k = omega arith in
                let next : lane * count + (k + 1) ≡ lane * count + suc k = omega arith in
                rw same (changed Holds (ap (λ v. get_or v lane 0) (set_same lanes heads k new (omega arith)))
                (ap (t.head (suc step - lane)) next) (head_more lane lane_lt le))
          ]

    pub step_sums_more : AreStepSums Holds lanes count times tails job before inserted_before sum_before
        (slice_set heads k new) new_inserted new_sum (lanes new) (k + 1)
    step_sums_more = record {
      long = length-set heads k new ∙ so_far.long;
      rest = λ j le. set_other lanes heads k new j (omega arith) ∙ so_far.rest j (omega arith);
      cells = λ t rows step are times_are none tails_are job_is summed.
          let so = so_far.cells t rows step are times_are none tails_are job_is summed in
          record {
            inserted_is = inserted_more t rows step are times_are none tails_are job_is summed so;
            sum_is = sum_more t rows step are times_are none tails_are job_is summed so;
            head_is = head_more t rows step are times_are none tails_are job_is summed so;
            done = head_done t rows step are times_are none tails_are job_is summed so;
          };
    }

-- a whole step
pub step_summed : {X : Type 0} (Holds : Holding) (lanes : X → List ℕ) (count rows step : ℕ) (t : TablesOfCells)
    (heads : List X) (inserted sum head : List ℕ) (k : ℕ) → AreSumsSoFar Holds lanes count rows step t heads inserted sum head k → k ≡ count
    → AreSummed Holds count rows (suc step) t (vectors_of (map lanes heads)) inserted sum
step_summed Holds lanes count rows step t heads inserted sum head k so all = record {
  heads_are = λ lane j lt j_lt le. so.done j lane (omega arith) lt le;
  inserted_is = λ place lane lt le here.
      let next : lane * count + k ≡ suc lane * count = omega arith in
      changed Holds refl (ap (t.inserted place) next) (so.inserted_is place lane lt le (omega arith));
  sum_is = λ place lane lt le here.
      let next : lane * count + k ≡ suc lane * count = omega arith in
      changed Holds refl (ap (t.sum place) next) (so.sum_is place lane lt le (omega arith));
}

-- ---- the pass, after some steps

pub record AreSumsFilled (Holds : Holding) (count rows step : ℕ) (t : TablesOfCells) (heads : Vectors)
    (inserted sum sums : List ℕ) : Type 0 where
  pub summed : AreSummed Holds count rows step t heads inserted sum
  pub kept : (place : ℕ) → place ≤ rows → place + 7 < step → Holds (get_or sums (place + 7) 0) (t.sum place (8 * count))

module _ (Holds : Holding) (itself : (n : ℕ) → Holds n n) (count rows : ℕ) (t : TablesOfCells) (are : AreTables rows t) where
  pub sums_filled_none : (heads : Vectors) (inserted sum sums : List ℕ)
      → ((lane k : ℕ) → lane < 8 → k < count → get_or (heads k) lane 0 ≡ 0)
      → AreSumsFilled Holds count rows 0 t heads inserted sum sums
  sums_filled_none heads inserted sum sums zeros = record {
    summed = record {
      heads_are = λ lane k lt k_lt le.
          let none : 0 ≡ 0 - lane = omega arith in
          let machines = lane * count + suc k in
          changed Holds (zeros lane k lt k_lt) (sym (are.first_head machines) ∙ ap (λ r. t.head r machines) none) (itself 0);
      inserted_is = λ place lane lt le all. absurd (omega arith);
      sum_is = λ place lane lt le all. absurd (omega arith);
    };
    kept = λ place le lt. absurd (omega arith);
  }

  pub sums_filled_more : (heads new : Vectors) (inserted sum new_inserted new_sum sums : List ℕ) (step last : ℕ)
      → AreSumsFilled Holds count rows step t heads inserted sum sums → step < length sums
      → AreSummed Holds count rows (suc step) t new new_inserted new_sum → last ≡ get_or new_sum 7 0
      → AreSumsFilled Holds count rows (step + 1) t new new_inserted new_sum (slice_set sums step last)
  sums_filled_more heads new inserted sum new_inserted new_sum sums step last so_far inside summed last_is = record {
    summed = subst (λ s. AreSummed Holds count rows s t new new_inserted new_sum) (omega arith) summed;
    kept = λ place le lt.
        elim (cases_lt (place + 7) step) [
          | inl earlier ↦
              changed Holds (get_or-set_other sums step (place + 7) last 0 (omega arith)) refl (so_far.kept place le earlier)
          | inr later ↦
              let same : step ≡ place + 7 = omega arith in
              let all : place + suc 7 ≡ suc step = omega arith in
              changed Holds (ap (λ s. get_or (slice_set sums step last) s 0) (sym same)
              ∙ get_or-set_same sums step last 0 inside ∙ last_is) refl (summed.sum_is place 7 (omega arith) le all)
        ];
  }

-- a step that is read from a table
module _ (Holds : Holding) (count steps : ℕ) (read : Vectors) (table : List (List ℕ)) (step : ℕ) (lt : step < steps)
    (same : (k : ℕ) → k < count → read k ≡ step_of count table step k) where
  pub step_read : (cell : Cells) → HoldCells Holds count steps cell table → IsStep Holds count step cell read
  step_read cell held k inside = column_as Holds count step cell k (same k inside) (held step lt k inside)

  pub none_read : (time : Cells) → AreTimes Holds count steps time table → IsNoneBefore count step read
  none_read time are lane k lane_lt inside before =
      ap (λ v. get_or v lane 0) (same k inside) ∙ are.none_before step lt lane k lane_lt inside before
