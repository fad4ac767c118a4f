-- A row of ends that a loop over the machines replaces by the next row.
use Rattle.std.proofs.Common.{◌≡◌, ℕ, zero, suc, ◌+◌, ◌<◌, ◌≤◌, max, List, length, [], get_or, slice_set, refl, ap, sym}
use Rattle.std.proofs.Common.{◌∙◌, inl, inr, add-one, arith}
use Rattle.std.proofs.lemmas.Bool.{cases_eq}
use Rattle.std.proofs.lemmas.List.{get_or-map, get_or-set_same, get_or-set_other, length-map, length-set, map-set}
use Rattle.pfs_batch.specs.Private.Lanes.{capped}
use Rattle.pfs_batch.specs.Private.Ends.{cell, cell_before, values_of, IsNextRow}
use Rattle.pfs_batch.specs.declared.lanes.Lanes.{Lanes}

abbrev lanes_of : Lanes → List ℕ
lanes_of v = v.values

pub read_as : (row : List Lanes) (machine : ℕ) (v : Lanes) → machine < length row → v ≡ get_or row machine v
    → v.values ≡ get_or (values_of row) machine []
read_as row machine v lt is = ap lanes_of is ∙ sym (get_or-map lanes_of row machine v [] lt)

pub set_here : (ends : List Lanes) (machine : ℕ) (new : Lanes) (lane : ℕ) → machine < length ends
    → cell (values_of (slice_set ends machine new)) machine lane ≡ get_or new.values lane 0
set_here ends machine new lane lt =
    let long = length-map ends lanes_of in
    rw (map-set lanes_of ends machine new)
    (ap (λ v. get_or v lane 0) (get_or-set_same (values_of ends) machine new.values [] (omega arith)))

pub set_there : (ends : List Lanes) (machine : ℕ) (new : Lanes) (m lane : ℕ) → (m ≡ machine → ⊥)
    → cell (values_of (slice_set ends machine new)) m lane ≡ cell (values_of ends) m lane
set_there ends machine new m lane other =
    rw (map-set lanes_of ends machine new)
    (ap (λ v. get_or v lane 0) (get_or-set_other (values_of ends) machine m new.values [] other))

before_kept : (ends : List Lanes) (machine : ℕ) (new : Lanes) (m lane : ℕ) → m ≤ machine
    → cell_before (values_of (slice_set ends machine new)) m lane ≡ cell_before (values_of ends) m lane
before_kept ends machine new zero lane le = refl
before_kept ends machine new (suc m) lane le = set_there ends machine new m lane (omega arith)

-- the machines before `machine` have the ends of the next row
pub record IsRowTo (old : List Lanes) (time : ℕ → ℕ → ℕ) (machine : ℕ) (ends : List Lanes) (before : List ℕ) : Type 0 where
  pub long : length ends ≡ length old
  pub before_is : (lane : ℕ) → lane < 8 → get_or before lane 0 ≡ cell_before (values_of ends) machine lane
  pub done : IsNextRow machine (values_of old) time (values_of ends)
  pub to_do : (m lane : ℕ) → machine ≤ m → cell (values_of ends) m lane ≡ cell (values_of old) m lane

pub row_more : (old : List Lanes) (time : ℕ → ℕ → ℕ) (machine : ℕ) (ends : List Lanes) (before : List ℕ) (new : Lanes)
    → IsRowTo old time machine ends before → machine < length ends
    → ((lane : ℕ) → lane < 8 → get_or new.values lane 0 ≡ capped
    (max (cell (values_of ends) machine lane) (get_or before lane 0) + time machine lane))
    → IsRowTo old time (machine + 1) (slice_set ends machine new) new.values
row_more old time machine ends before new so_far inside is =
    let row = values_of (slice_set ends machine new) in
    record {
      long = length-set ends machine new ∙ so_far.long;
      before_is = λ lane lt. sym (set_here ends machine new lane inside)
          ∙ sym (ap (λ k. cell_before row k lane) (add-one machine));
      done = λ m lane lt lane_lt. elim (cases_eq m machine) [
        | inl same ↦ rw same
            (let a = set_here ends machine new lane inside in
            let b = is lane lane_lt in
            let d = so_far.to_do machine lane (omega arith) in
            let e = so_far.before_is lane lane_lt in
            let f = before_kept ends machine new machine lane (omega arith) in
            a ∙ b ∙ ap (λ x. capped (max x (get_or before lane 0) + time machine lane)) d
            ∙ ap (λ x. capped (max (cell (values_of old) machine lane) x + time machine lane))
            (e ∙ sym f))
        | inr other ↦
            let a = set_there ends machine new m lane other in
            let b = so_far.done m lane (omega (arith, other)) lane_lt in
            let f = before_kept ends machine new m lane (omega arith) in
            a ∙ b
            ∙ ap (λ x. capped (max (cell (values_of old) m lane) x + time m lane)) (sym f)
      ];
      to_do = λ m lane le. set_there ends machine new m lane (omega arith) ∙ so_far.to_do m lane (omega arith);
    }
