-- Vectors that are read and written, and tables that have as many vectors for each step.
use Rattle.std.proofs.Common.{ℕ, ◌≡◌, ◌+◌, ◌-◌, ◌*◌, ◌<◌, ◌≤◌, List, [], length, map, take, drop, get_or, slice_set, ap}
use Rattle.std.proofs.Common.{◌∙◌, sym, arith, inl, inr}
use Rattle.std.proofs.Math.Nat.{mul-le-mul_right}
use Rattle.std.proofs.lemmas.Bool.{cases_lt}
use Rattle.std.proofs.lemmas.List.{get_or-take, get_or-drop, take-map, drop-map, get_or-map, length-map, length-set}
use Rattle.std.proofs.lemmas.List.{get_or-set_same, get_or-set_other, map-set}
use borrow.Rule.Slice.PartMut.{put_mid}
use Rattle.pfs_wave.specs.Private.Blocks.{Vectors, vectors_of, step_of}
use Rattle.pfs_wave.proofs.PutParts.{put_inside, put_after}

module _ {X : Type 0} (lanes : X → List ℕ) (row : List X) (k : ℕ) (x : X) where
  pub read : k < length row → lanes (get_or row k x) ≡ vectors_of (map lanes row) k
  read lt = sym (get_or-map lanes row k x [] lt)

  pub read_as : k < length row → x ≡ get_or row k x → lanes x ≡ vectors_of (map lanes row) k
  read_as lt is = ap lanes is ∙ read lt

  pub set_same : k < length row → vectors_of (map lanes (slice_set row k x)) k ≡ lanes x
  set_same lt =
      let long = length-map row lanes in
      rw (map-set lanes row k x) (get_or-set_same (map lanes row) k (lanes x) [] (omega arith))

  pub set_other : (j : ℕ) → (j ≡ k → ⊥) → vectors_of (map lanes (slice_set row k x)) j ≡ vectors_of (map lanes row) j
  set_other j other = rw (map-set lanes row k x) (get_or-set_other (map lanes row) k j (lanes x) [] (omega arith))

-- the first vectors of an array of `count` are these
pub record AreCopiedSoFar {X : Type 0} (lanes : X → List ℕ) (count : ℕ) (vectors : Vectors) (array : List X) (to : ℕ) :
    Type 0 where
  pub long : length array ≡ count
  pub same : (k : ℕ) → k < to → vectors_of (map lanes array) k ≡ vectors k

pub copied_more : {X : Type 0} (lanes : X → List ℕ) (count : ℕ) (vectors : Vectors) (array : List X) (k : ℕ) (new : X)
    → AreCopiedSoFar lanes count vectors array k → k < count → lanes new ≡ vectors k
    → AreCopiedSoFar lanes count vectors (slice_set array k new) (k + 1)
copied_more lanes count vectors array k new so_far lt is =
    let long = so_far.long in
    record {
      long = length-set array k new ∙ long;
      same = λ j less.
          elim (cases_lt j k) [
            | inl earlier ↦ set_other lanes array k new j (omega arith) ∙ so_far.same j earlier
            | inr last ↦ let here : j ≡ k = omega arith in rw here (set_same lanes array k new (omega arith) ∙ is)
          ];
    }

-- the places of a later step are after those of a step
pub step_after : (count step next : ℕ) → step < next → step * count + count ≤ next * count
step_after count step next lt = omega (arith, mul-le-mul_right count lt)

module _ {X : Type 0} (lanes : X → List ℕ) (count step at n : ℕ) (table : List X) (at_is : at ≡ step * count) where
  -- a step that is read
  pub part_read : (k : ℕ) → k < n
      → vectors_of (map lanes (take n (drop at table))) k ≡ step_of count (map lanes table) step k
  part_read k lt =
      ap (λ l. get_or l k []) (sym (take-map lanes n (drop at table)) ∙ ap (take n) (sym (drop-map lanes at table)))
      ∙ get_or-take n (drop at (map lanes table)) k [] lt ∙ get_or-drop at (map lanes table) k []
      ∙ ap (λ i. get_or (map lanes table) (i + k) []) at_is

  module _ (new : List X) (n_is : n ≡ count) (inside : at ≤ length table) (long : length new ≡ count) where
    -- the step that is written
    pub part_written : (k : ℕ) → k < count
        → step_of count (map lanes (put_mid at n table new)) step k ≡ vectors_of (map lanes new) k
    part_written k lt =
        let here : step * count + k - at ≡ k = omega arith in
        put_inside lanes at n table new inside (omega arith) [] (step * count + k) (omega arith) (omega arith)
        ∙ ap (λ i. get_or (map lanes new) i []) here

    -- the steps after it
    pub part_kept : (other k : ℕ) → step < other
        → step_of count (map lanes (put_mid at n table new)) other k ≡ step_of count (map lanes table) other k
    part_kept other k lt =
        put_after lanes at n table new inside (omega arith) [] (other * count + k)
        (omega (arith, step_after count step other lt))
