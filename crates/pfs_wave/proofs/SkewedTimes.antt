-- The vectors of skewed times, filled a step at a time.
use Rattle.std.proofs.Common.{inl, inr, min, ◌≡◌, ℕ, suc, ◌+◌, ◌*◌, ◌<◌, ◌≤◌, List, [], ◌∷◌, length, map}
use Rattle.std.proofs.Common.{get_or, slice_set, ap, ◌∙◌, sym, refl, arith}
use Rattle.std.proofs.lemmas.Bool.{cases_lt}
use Rattle.std.proofs.lemmas.List.{get_or-map, get_or-set_same, get_or-set_other, get_or_past, length-map, length-set}
use Rattle.std.proofs.lemmas.List.{map-set}
use Rattle.std.proofs.lemmas.Nat.{mul-add-lt}
use Rattle.pfs_wave.specs.Private.Lanes.{Rows}
use Rattle.pfs_wave.specs.Private.Blending.{past_at, diagonal}
use Rattle.pfs_wave.specs.Private.Blocks.{step_of}
use Rattle.pfs_wave.specs.Private.HeldRows.{HoldLanes, HoldOutside}
use Rattle.pfs_wave.specs.Private.SkewedBand.{IsFilled}
use Rattle.pfs_wave.proofs.PastRows.{diagonal_lane, past_is, past_none}
use Rattle.pfs_wave.proofs.StepTables.{step_after}

-- two vectors of a table are at the same place only if they are the same
pub same_vector : (count step other j k : ℕ) → j < count → k < count → step * count + j ≡ other * count + k
    → (step ≡ other) × (j ≡ k)
same_vector count step other j k j_lt k_lt is =
    elim (cases_lt step other) [
      | inl before ↦ absurd (omega (arith, step_after count step other before))
      | inr le ↦ elim (cases_lt other step) [
        | inl after ↦ absurd (omega (arith, step_after count other step after))
        | inr ge ↦
            let same : step ≡ other = omega arith in
            (same, omega (arith, ap (λ s. s * count) same))
      ]
    ]

module _ {X : Type 0} (lanes : X → List ℕ) (count : ℕ) (table : List X) (row k at : ℕ) (new : X) (k_lt : k < count)
    (at_is : at ≡ row * count + k) where
  pub put_here : at < length table → step_of count (map lanes (slice_set table at new)) row k ≡ lanes new
  put_here inside =
      let long = length-map table lanes in
      ap (λ i. get_or (map lanes (slice_set table at new)) i []) (sym at_is)
      ∙ rw (map-set lanes table at new) (get_or-set_same (map lanes table) at (lanes new) [] (omega arith))

  pub put_there : (step j : ℕ) → j < count → ((step ≡ row) × (j ≡ k) → ⊥)
      → step_of count (map lanes (slice_set table at new)) step j ≡ step_of count (map lanes table) step j
  put_there step j j_lt other =
      rw (map-set lanes table at new)
      (get_or-set_other (map lanes table) at (step * count + j) (lanes new) []
      (λ is. other (same_vector count step row j k j_lt k_lt (is ∙ at_is))))

pub same_long : {X : Type 0} (lanes : X → List ℕ) (old new : List X) → length (map lanes new) ≡ length (map lanes old)
    → length new ≡ length old
same_long lanes old new is = sym (length-map new lanes) ∙ is ∙ length-map old lanes

pub filled_none : (count k : ℕ) (rows : Rows) (from : ℕ) (times : List (List ℕ))
    → IsFilled count k rows from from times times
filled_none count k rows from times = record {
  long = refl;
  filled = λ step le lt. absurd (omega arith);
  before = λ step lt. refl;
  after = λ step le. refl;
  others = λ step j lt other. refl;
}

-- one step is filled
pub filled_one : {X : Type 0} (lanes : X → List ℕ) (count k : ℕ) (rows : Rows) (row : ℕ) (times : List X) (new : X)
    {written : List X}
    → k < count → row * count + k < length times → written ≡ slice_set times (row * count + k) new
    → lanes new ≡ diagonal (past_at rows (suc row))
    → IsFilled count k rows row (row + 1) (map lanes times) (map lanes written)
filled_one lanes count k rows row times new k_lt inside is new_is =
    let at = row * count + k in
    let here = put_here lanes count times row k at new k_lt refl inside in
    let there = put_there lanes count times row k at new k_lt refl in
    rw is (record {
      long = length-map (slice_set times at new) lanes ∙ length-set times at new ∙ sym (length-map times lanes);
      filled = λ step le lt. let same : step ≡ row = omega arith in rw same (here ∙ new_is);
      before = λ step lt. there step k k_lt (λ same. omega (arith, same.0));
      after = λ step le. there step k k_lt (λ same. omega (arith, same.0));
      others = λ step j lt other. there step j lt (λ same. other same.1);
    })

-- steps that are filled one part after the other
pub filled_then : {count k : ℕ} {rows : Rows} {from mid here there to : ℕ} {old between new : List (List ℕ)}
    → IsFilled count k rows from mid old between → IsFilled count k rows here there between new → here ≡ mid
    → there ≡ to → from ≤ mid → mid ≤ to → IsFilled count k rows from to old new
filled_then {mid = mid} first second is ends le_mid le_to = record {
  long = second.long ∙ first.long;
  filled = λ step le lt.
      elim (cases_lt step mid) [
        | inl early ↦ second.before step (omega arith) ∙ first.filled step le early
        | inr later ↦ second.filled step (omega arith) (omega arith)
      ];
  before = λ step lt. second.before step (omega arith) ∙ first.before step lt;
  after = λ step le. second.after step (omega arith) ∙ first.after step (omega arith);
  others = λ step j lt other. second.others step j lt other ∙ first.others step j lt other;
}

-- a vector of the steps contains the rows of the sequence
pub hold_filled : (rows : Rows) (from to stop end steps : ℕ) (old times : Rows)
    → ((step : ℕ) → from ≤ step → step < end → times step ≡ diagonal (past_at rows (suc step)))
    → ((step : ℕ) → step < from → times step ≡ old step) → ((step : ℕ) → end ≤ step → times step ≡ old step)
    → min (min to stop + 7) steps ≤ end → HoldOutside rows from to stop steps old → HoldLanes rows steps times
hold_filled rows from to stop end steps old times filled before after ends outside = record {
  times_are = λ row lane lt inside.
      elim (cases_lt (row + lane) from) [
        | inl early ↦ ap (λ l. get_or l lane 0) (before (row + lane) early) ∙ outside.front row lane (omega arith) lt inside
        | inr later ↦ elim (cases_lt (row + lane) end) [
          | inl within ↦
              ap (λ l. get_or l lane 0) (filled (row + lane) later within)
              ∙ diagonal_lane (past_at rows (suc (row + lane))) lane lt
              ∙ past_is rows lane (suc (row + lane)) row lane (omega arith)
          | inr past ↦
              ap (λ l. get_or l lane 0) (after (row + lane) past)
              ∙ elim (cases_lt row to) [
                | inl changed ↦ outside.later row lane (omega arith) lt inside
                | inr kept ↦ outside.back row lane kept lt inside
              ]
        ]
      ];
  none_before = λ step lane early lt inside.
      elim (cases_lt step from) [
        | inl earlier ↦ ap (λ l. get_or l lane 0) (before step earlier) ∙ outside.none_before step lane early lt inside
        | inr later ↦ elim (cases_lt step end) [
          | inl within ↦
              ap (λ l. get_or l lane 0) (filled step later within) ∙ diagonal_lane (past_at rows (suc step)) lane lt
              ∙ past_none rows lane (suc step) lane (omega arith)
          | inr past ↦ ap (λ l. get_or l lane 0) (after step past) ∙ outside.none_before step lane early lt inside
        ]
      ];
}

-- the same table
pub hold_as : (rows : Rows) (steps : ℕ) {these others : Rows} → ((step : ℕ) → these step ≡ others step)
    → HoldLanes rows steps others → HoldLanes rows steps these
hold_as rows steps same hold = record {
  times_are = λ row lane lt inside. ap (λ l. get_or l lane 0) (same (row + lane)) ∙ hold.times_are row lane lt inside;
  none_before = λ step lane early lt inside.
      ap (λ l. get_or l lane 0) (same step) ∙ hold.none_before step lane early lt inside;
}

-- ---- vectors that are copied

module _ {X : Type 0} (lanes : X → List ℕ) where
  pub copied : (old new : List X) (i j : ℕ) → ((d : X) → get_or new i d ≡ get_or old j d) → i < length new
      → j < length old → get_or (map lanes new) i [] ≡ get_or (map lanes old) j []
  copied old [] i j same inside from = absurd (omega (arith, inside))
  copied old (x ∷ new) i j same inside from =
      get_or-map lanes (x ∷ new) i x [] inside ∙ ap lanes (same x) ∙ sym (get_or-map lanes old j x [] from)

  pub unchanged : (old new : List X) (i : ℕ) → ((d : X) → get_or new i d ≡ get_or old i d) → length new ≡ length old
      → get_or (map lanes new) i [] ≡ get_or (map lanes old) i []
  unchanged old new i same long =
      elim (cases_lt i (length new)) [
        | inl inside ↦ copied old new i i same inside (omega arith)
        | inr past ↦
            let new_long = length-map new lanes in
            let old_long = length-map old lanes in
            get_or_past (map lanes new) i [] (omega arith) ∙ sym (get_or_past (map lanes old) i [] (omega arith))
      ]

-- a vector of a step is inside a table of as many steps
pub vector_inside : (count steps step k long : ℕ) → step < steps → k < count → long ≡ steps * count
    → step * count + k < long
vector_inside count steps step k long lt k_lt is = omega (arith, mul-add-lt step count k steps lt k_lt)
