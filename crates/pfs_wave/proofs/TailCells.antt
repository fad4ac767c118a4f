-- The pass of the tails, one vector after the other.
use Rattle.std.proofs.Common.{ℕ, suc, ◌≡◌, ◌≢◌, ◌+◌, ◌-◌, ◌*◌, ◌<◌, ◌≤◌, List, [], length, map, get_or, slice_set, max, ap}
use Rattle.std.proofs.Common.{◌∙◌, sym, refl, arith, inl, inr, subst, replicate}
use Rattle.std.proofs.lemmas.Bool.{cases_lt}
use Rattle.std.proofs.lemmas.List.{get_or_past, get_or-map, get_or-replicate, length-set, length-replicate}
use Rattle.std.proofs.lemmas.Nat.{mul-add-lt}
use borrow.Rule.Slice.PartMut.{put_mid}
use Rattle.pfs_wave.specs.Private.Lanes.{Holding, IsNext, IsSecond, zeros}
use Rattle.pfs_wave.specs.Private.Blocks.{Cells, Vectors, HoldCells, IsColumn, IsStep, step_of, vectors_of}
use Rattle.pfs_wave.specs.Private.Recurrences.{AreTails}
use Rattle.pfs_wave.proofs.Steps.{zeros-get_or}
use Rattle.pfs_wave.proofs.StepTables.{set_same, set_other, step_after, part_written, part_kept}

-- the same number holds the same value
pub changed : (Holds : Holding) {n m v w : ℕ} → n ≡ m → v ≡ w → Holds m v → Holds n w
changed Holds p q held = rw (p, ← q) held

pub machine_inside : (count lane k : ℕ) → lane < 8 → k < count → lane * count + k < 8 * count
machine_inside count lane k lt k_lt = omega (arith, mul-add-lt lane count k 8 lt k_lt)

-- the same lanes
pub column_as : (Holds : Holding) (count step : ℕ) (cell : Cells) (k : ℕ) {v w : List ℕ} → v ≡ w
    → IsColumn Holds count step cell k w → IsColumn Holds count step cell k v
column_as Holds count step cell k is held row lane lt all = changed Holds (ap (λ l. get_or l lane 0) is) refl (held row lane lt all)

-- ---- a vector

module _ (Holds : Holding) (itself : (n : ℕ) → Holds n n) (count : ℕ) (time tail : Cells) (are : AreTails count time tail)
    (step : ℕ) where
  pub tail_carried : (first carry : List ℕ) → length first ≡ 8 → IsColumn Holds count (suc step) tail 0 first
      → ((lane : ℕ) → lane < 8 → get_or carry lane 0 ≡ get_or first (suc lane) 0)
      → IsColumn Holds count step tail count carry
  tail_carried first carry long is moved row lane lt all =
      elim (cases_lt (suc lane) 8) [
        | inl more ↦
            let here : suc lane * count + 0 ≡ lane * count + count = omega arith in
            changed Holds (moved lane lt) (ap (tail row) here) (is row (suc lane) more (omega arith))
        | inr last ↦
            let seven : lane ≡ 7 = omega arith in
            let here : 8 * count ≡ lane * count + count = rw seven (omega arith) in
            changed Holds (moved lane lt ∙ get_or_past first (suc lane) 0 (omega arith))
            (sym (are.none row) ∙ ap (tail row) here) (itself 0)
      ]

  pub tail_more : (k : ℕ) (beside above now new : List ℕ) → k < count → IsColumn Holds count step tail (suc k) beside
      → IsColumn Holds count (suc step) tail k above → IsColumn Holds count step time k now
      → IsNext Holds beside above now new → IsColumn Holds count step tail k new
  tail_more k beside above now new k_lt p q r is row lane lt all =
      let machine = lane * count + k in
      let next : lane * count + suc k ≡ suc machine = omega arith in
      changed Holds refl (sym (are.next row machine (machine_inside count lane k lt k_lt)))
      (is lane _ _ _ lt (changed Holds refl (ap (tail row) next) (p row lane lt all)) (q (suc row) lane lt (omega arith))
      (r row lane lt all))

  pub tail_second : (k : ℕ) (beside above now next_above next_now new : List ℕ) → suc k < count
      → IsColumn Holds count step tail (suc (suc k)) beside → IsColumn Holds count (suc step) tail (suc k) above
      → IsColumn Holds count step time (suc k) now → IsColumn Holds count (suc step) tail k next_above
      → IsColumn Holds count step time k next_now → IsSecond Holds beside above now next_above next_now new
      → IsColumn Holds count step tail k new
  tail_second k beside above now next_above next_now new k_lt p q r s t is row lane lt all =
      let first = lane * count + suc k in
      let machine = lane * count + k in
      let next : first ≡ suc machine = omega arith in
      let after : lane * count + suc (suc k) ≡ suc first = omega arith in
      changed Holds refl (ap (λ v. max v (tail (suc row) machine) + time row machine)
      (sym (are.next row first (machine_inside count lane (suc k) lt k_lt)) ∙ ap (tail row) next)
      ∙ sym (are.next row machine (machine_inside count lane k lt (omega arith))))
      (is lane _ _ _ _ _ lt (changed Holds refl (ap (tail row) after) (p row lane lt all)) (q (suc row) lane lt (omega arith))
      (r row lane lt all) (s (suc row) lane lt (omega arith)) (t row lane lt all))

-- ---- a step: the last vectors of both tables, as many as have passed, have their cells

pub record AreTailsSoFar {X : Type 0} (Holds : Holding) (lanes : X → List ℕ) (count step : ℕ) (tail : Cells)
    (now row : List X) (last : List ℕ) (passed : ℕ) : Type 0 where
  pub last_is : IsColumn Holds count step tail (count - passed) last
  pub done : (k : ℕ) → k < count → count ≤ k + passed → IsColumn Holds count step tail k (vectors_of (map lanes now) k)
  pub row_done : (k : ℕ) → k < count → count ≤ k + passed → IsColumn Holds count step tail k (vectors_of (map lanes row) k)

pub record AreStepTails {X : Type 0} (Holds : Holding) (lanes : X → List ℕ) (count : ℕ) (times after : Vectors)
    (first : List ℕ) (now row : List X) (last : List ℕ) (passed : ℕ) : Type 0 where
  pub long : length now ≡ count
  pub row_long : length row ≡ count
  pub cells : (time tail : Cells) (step : ℕ) → AreTails count time tail → IsStep Holds count step time times
      → IsStep Holds count (suc step) tail after → IsColumn Holds count (suc step) tail 0 first
      → AreTailsSoFar Holds lanes count step tail now row last passed

module _ {X : Type 0} (Holds : Holding) (itself : (n : ℕ) → Holds n n) (lanes : X → List ℕ) (count : ℕ)
    (times after : Vectors) (first : List ℕ) (eight : length first ≡ 8) where
  pub step_tails_none : (now row : List X) (carry : List ℕ) → length now ≡ count → length row ≡ count
      → ((lane : ℕ) → lane < 8 → get_or carry lane 0 ≡ get_or first (suc lane) 0)
      → AreStepTails Holds lanes count times after first now row carry 0
  step_tails_none now row carry long row_long moved = record {
    long = long;
    row_long = row_long;
    cells = λ time tail step are times_are after_are first_is. record {
      last_is = subst (λ j. IsColumn Holds count step tail j carry) (omega arith)
          (tail_carried Holds itself count time tail are step first carry eight first_is moved);
      done = λ k lt le. absurd (omega arith);
      row_done = λ k lt le. absurd (omega arith);
    };
  }

  module _ (now row : List X) (last : List ℕ) (passed k : ℕ) (new : X) (carry second : List ℕ)
      (so_far : AreStepTails Holds lanes count times after first now row last passed) (lt : passed < count)
      (k_is : k ≡ count - 1 - passed)
      (carried : (lane : ℕ) → lane < 8 → get_or carry lane 0 ≡ get_or first (suc lane) 0)
      (second_is : 2 ≤ count → IsSecond Holds carry (after (count - 1)) (times (count - 1)) (after (count - 2))
      (times (count - 2)) second)
      (one : passed ≡ 1 → lanes new ≡ second) (more : passed ≢ 1 → IsNext Holds last (after k) (times k) (lanes new)) where
    new_is : (time tail : Cells) (step : ℕ) → AreTails count time tail → IsStep Holds count step time times
        → IsStep Holds count (suc step) tail after → IsColumn Holds count (suc step) tail 0 first
        → IsColumn Holds count step tail k (lanes new)
    new_is time tail step are times_are after_are first_is =
        let next : passed ≢ 1 → IsColumn Holds count step tail k (lanes new) =
        λ other.
        let beside : count - passed ≡ suc k = omega arith in
        tail_more Holds itself count time tail are step k last (after k) (times k) (lanes new) (omega arith)
        (subst (λ j. IsColumn Holds count step tail j last) beside
        (so_far.cells time tail step are times_are after_are first_is).last_is)
        (after_are k (omega arith)) (times_are k (omega arith)) (more other) in
        elim (cases_lt passed 1) [
          | inl none ↦ next (λ is. omega arith)
          | inr some_passed ↦ elim (cases_lt 1 passed) [
            | inl many ↦ next (λ is. omega arith)
            | inr few ↦
                let is_one : passed ≡ 1 = omega arith in
                let here : k ≡ count - 2 = omega arith in
                let before : suc (count - 2) ≡ count - 1 = omega arith in
                let all : suc (suc (count - 2)) ≡ count = omega arith in
                subst (λ j. IsColumn Holds count step tail j (lanes new)) (sym here) (column_as Holds count step tail (count - 2) (one is_one)
                (tail_second Holds itself count time tail are step (count - 2) carry (after (count - 1)) (times (count - 1))
                (after (count - 2)) (times (count - 2)) second (omega arith)
                (subst (λ j. IsColumn Holds count step tail j carry) (sym all) (tail_carried Holds itself count time tail are step
                first carry eight first_is carried))
                (subst (λ j. IsColumn Holds count (suc step) tail j (after (count - 1))) (sym before)
                (after_are (count - 1) (omega arith)))
                (subst (λ j. IsColumn Holds count step time j (times (count - 1))) (sym before)
                (times_are (count - 1) (omega arith)))
                (after_are (count - 2) (omega arith)) (times_are (count - 2) (omega arith)) (second_is (omega arith))))
          ]
        ]

    wrote : (table : List X) (step : ℕ) (tail : Cells) → length table ≡ count
        → ((j : ℕ) → j < count → count ≤ j + passed → IsColumn Holds count step tail j (vectors_of (map lanes table) j))
        → IsColumn Holds count step tail k (lanes new) → (j : ℕ) → j < count → count ≤ j + (passed + 1)
        → IsColumn Holds count step tail j (vectors_of (map lanes (slice_set table k new)) j)
    wrote table step tail long done next j inside le =
        elim (cases_lt k j) [
          | inl after_k ↦ column_as Holds count step tail j (set_other lanes table k new j (omega arith)) (done j inside (omega arith))
          | inr before ↦
              let same : j ≡ k = omega arith in
              subst (λ i. IsColumn Holds count step tail i (vectors_of (map lanes (slice_set table k new)) i)) (sym same)
              (column_as Holds count step tail k (set_same lanes table k new (omega arith)) next)
        ]

    pub step_tails_more : AreStepTails Holds lanes count times after first (slice_set now k new) (slice_set row k new)
        (lanes new) (passed + 1)
    step_tails_more = record {
      long = length-set now k new ∙ so_far.long;
      row_long = length-set row k new ∙ so_far.row_long;
      cells = λ time tail step are times_are after_are first_is.
          let so = so_far.cells time tail step are times_are after_are first_is in
          let next = new_is time tail step are times_are after_are first_is in
          let last_at : k ≡ count - (passed + 1) = omega arith in
          record {
            last_is = subst (λ j. IsColumn Holds count step tail j (lanes new)) last_at next;
            done = wrote now step tail so_far.long so.done next;
            row_done = wrote row step tail so_far.row_long so.row_done next;
          };
    }

-- ---- the pass: the last steps have their cells, and so have `now` and `first`

pub record AreTailsFilled {X : Type 0} (Holds : Holding) (lanes : X → List ℕ) (count steps : ℕ) (tail : Cells)
    (tails now : List X) (first : List ℕ) (left : ℕ) : Type 0 where
  pub first_is : IsColumn Holds count (steps - left) tail 0 first
  pub now_is : IsStep Holds count (steps - left) tail (vectors_of (map lanes now))
  pub tails_are : (step : ℕ) → step ≤ steps → steps ≤ step + left
      → IsStep Holds count step tail (step_of count (map lanes tails) step)

module _ {X : Type 0} (Holds : Holding) (itself : (n : ℕ) → Holds n n) (lanes : X → List ℕ) (count steps : ℕ) where
  pub tails_filled_none : (tail : Cells) (zero : X) (tails : List X) → 1 ≤ count → lanes zero ≡ zeros 8
      → ((row lane k : ℕ) → lane < 8 → k < count → row + lane ≡ steps → tail row (lane * count + k) ≡ 0)
      → ((k : ℕ) → k < count
      → step_of count (map lanes tails) steps k ≡ vectors_of (map lanes (replicate count zero)) k)
      → AreTailsFilled Holds lanes count steps tail tails (replicate count zero) (lanes zero) 0
  tails_filled_none tail zero tails some none last written =
      let zeros_are : (k : ℕ) → k < count → IsColumn Holds count steps tail k (lanes zero) =
      λ k lt row lane lane_lt all.
      changed Holds (ap (λ v. get_or v lane 0) none ∙ zeros-get_or 8 lane lane_lt) (sym (last row lane k lane_lt lt all))
      (itself 0) in
      let now_is : IsStep Holds count steps tail (vectors_of (map lanes (replicate count zero))) =
      λ k lt.
      let inside = length-replicate count zero in
      column_as Holds count steps tail k (get_or-map lanes (replicate count zero) k zero [] (omega arith)
      ∙ ap lanes (get_or-replicate count k zero zero lt)) (zeros_are k lt) in
      let start : steps ≡ steps - 0 = omega arith in
      record {
        first_is = subst (λ s. IsColumn Holds count s tail 0 (lanes zero)) start (zeros_are 0 (omega arith));
        now_is = subst (λ s. IsStep Holds count s tail (vectors_of (map lanes (replicate count zero)))) start now_is;
        tails_are = λ step le more k lt.
            let here : steps ≡ step = omega arith in
            subst (λ s. IsColumn Holds count s tail k (step_of count (map lanes tails) s k)) here
            (column_as Holds count steps tail k (written k lt) (now_is k lt));
      }

  pub tails_filled_more : (time tail : Cells) (times : List (List ℕ)) (tails now new row : List X)
      (first next : List ℕ) (read after : Vectors) (left step at : ℕ) → AreTails count time tail
      → HoldCells Holds count steps time times
      → AreTailsFilled Holds lanes count steps tail tails now first left → left < steps → step ≡ steps - 1 - left
      → length tails ≡ steps * count + count → at ≡ step * count → length row ≡ count
      → ((k : ℕ) → k < count → read k ≡ step_of count times step k)
      → ((k : ℕ) → k < count → after k ≡ step_of count (map lanes tails) (suc step) k)
      → ((time tail : Cells) (step : ℕ) → AreTails count time tail → IsStep Holds count step time read
      → IsStep Holds count (suc step) tail after → IsStep Holds count (suc step) tail (vectors_of (map lanes now))
      → IsColumn Holds count (suc step) tail 0 first
      → IsStep Holds count step tail (vectors_of (map lanes new)) × IsStep Holds count step tail (vectors_of (map lanes row))
      × IsColumn Holds count step tail 0 next)
      → AreTailsFilled Holds lanes count steps tail (put_mid at count tails row) new next (left + 1)
  tails_filled_more time tail times tails now new row first next read after left step at are held so_far lt step_is
      long at_is row_long read_is after_is made =
      let room = step_after count step steps (omega arith) in
      let now_step : steps - left ≡ suc step = omega arith in
      let next_step : step ≡ steps - (left + 1) = omega arith in
      let done = made time tail step are
      (λ k less. column_as Holds count step time k (read_is k less) (held step (omega arith) k less))
      (λ k less. column_as Holds count (suc step) tail k (after_is k less) (so_far.tails_are (suc step) (omega arith) (omega arith) k less))
      (subst (λ s. IsStep Holds count s tail (vectors_of (map lanes now))) now_step so_far.now_is)
      (subst (λ s. IsColumn Holds count s tail 0 first) now_step so_far.first_is) in
      record {
        first_is = subst (λ s. IsColumn Holds count s tail 0 next) next_step done.2;
        now_is = subst (λ s. IsStep Holds count s tail (vectors_of (map lanes new))) next_step done.0;
        tails_are = λ other less end k inside.
            elim (cases_lt step other) [
              | inl later ↦
                  column_as Holds count other tail k (part_kept lanes count step at count tails at_is row refl (omega arith) row_long other k
                  later) (so_far.tails_are other less (omega arith) k inside)
              | inr here ↦
                  let same : step ≡ other = omega arith in
                  subst (λ s. IsColumn Holds count s tail k (step_of count (map lanes (put_mid at count tails row)) s k)) same
                  (column_as Holds count step tail k (part_written lanes count step at count tails at_is row refl (omega arith) row_long k
                  inside) (done.1 k inside))
            ];
      }
