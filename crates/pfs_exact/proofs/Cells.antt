-- Vectors of eight lanes that a loop writes one by one.
use Rattle.std.proofs.Common.{◌≡◌, ℕ, ◌+◌, ◌*◌, ◌<◌, ◌≤◌, List, length, [], get_or, slice_set, ap, sym, ◌∙◌}
use Rattle.std.proofs.Common.{inl, inr, arith}
use Rattle.std.proofs.lemmas.Bool.{cases_eq}
use Rattle.std.proofs.lemmas.List.{get_or-map, get_or-set_same, get_or-set_other, length-map, map-set}
use Rattle.pfs_base.specs.FlowShop.{FlowShop, time_of}
use Rattle.pfs_exact.specs.Private.Blocks.{cell, values_of, IsAtMost}
use Rattle.pfs_exact.specs.declared.lanes.Lanes.{Lanes}

abbrev lanes_of : Lanes → List ℕ
lanes_of v = v.values

pub read_as : (row : List Lanes) (machine : ℕ) (v : Lanes) → machine < length row → v ≡ get_or row machine v
    → v.values ≡ get_or (values_of row) machine []
read_as row machine v lt is = ap lanes_of is ∙ sym (get_or-map lanes_of row machine v [] lt)

-- the number that was read in a lane
pub read_lane : (row : List Lanes) (machine lane : ℕ) (v : Lanes) → machine < length row → v ≡ get_or row machine v
    → get_or v.values lane 0 ≡ cell row machine lane
read_lane row machine lane v lt is = ap (λ l. get_or l lane 0) (read_as row machine v lt is)

pub set_here : (ends : List Lanes) (machine : ℕ) (new : Lanes) (lane : ℕ) → machine < length ends
    → cell (slice_set ends machine new) machine lane ≡ get_or new.values lane 0
set_here ends machine new lane lt =
    let long = length-map ends lanes_of in
    rw (map-set lanes_of ends machine new)
    (ap (λ v. get_or v lane 0) (get_or-set_same (values_of ends) machine new.values [] (omega arith)))

pub set_there : (ends : List Lanes) (machine : ℕ) (new : Lanes) (m lane : ℕ) → (m ≡ machine → ⊥)
    → cell (slice_set ends machine new) m lane ≡ cell ends m lane
set_there ends machine new m lane other =
    rw (map-set lanes_of ends machine new)
    (ap (λ v. get_or v lane 0) (get_or-set_other (values_of ends) machine m new.values [] other))

-- one more vector
pub at_most_more : (machine : ℕ) (most : ℕ → ℕ) (vectors : List Lanes) (new : Lanes) → machine < length vectors
    → ((lane : ℕ) → lane < 8 → get_or new.values lane 0 ≤ most machine)
    → IsAtMost machine most vectors → IsAtMost (machine + 1) most (slice_set vectors machine new)
at_most_more machine most vectors new inside here before m lane small lane_small = elim (cases_eq m machine) [
  | inl is ↦
      let same = set_here vectors machine new lane inside in
      let fits = here lane lane_small in
      rw is (omega arith)
  | inr other ↦
      let same = set_there vectors machine new m lane other in
      let fits = before m lane (omega arith) lane_small in
      omega arith
]

-- the times of the jobs, in the vectors before a place
abbrev pub AreTimesTo : FlowShop → ℕ → List Lanes → Type 0
AreTimesTo shop to times = (block machine lane : ℕ) → 64 * block + machine < to → machine < shop.machines → lane < 8
    → 8 * block + lane < shop.jobs → cell times (64 * block + machine) lane ≡ time_of shop (8 * block + lane) machine

pub times_more : (shop : FlowShop) (block machine : ℕ) (times : List Lanes) (new : Lanes) → shop.machines ≤ 64
    → machine < shop.machines → 64 * block + machine < length times
    → ((lane : ℕ) → lane < 8 → 8 * block + lane < shop.jobs
    → get_or new.values lane 0 ≡ time_of shop (8 * block + lane) machine)
    → AreTimesTo shop (64 * block + machine) times
    → AreTimesTo shop (64 * block + (machine + 1)) (slice_set times (64 * block + machine) new)
times_more shop block machine times new few inside within here before b m lane less small lane_small job =
    elim (cases_eq (64 * b + m) (64 * block + machine)) [
      | inr other ↦ set_there times (64 * block + machine) new (64 * b + m) lane other
          ∙ before b m lane (omega arith) small lane_small job
      | inl is ↦
          let same_block : b ≡ block = omega arith in
          let same_machine : m ≡ machine = omega arith in
          let same_job : 8 * b + lane ≡ 8 * block + lane = omega arith in
          ap (λ k. cell (slice_set times (64 * block + machine) new) k lane) is
          ∙ set_here times (64 * block + machine) new lane within
          ∙ here lane lane_small (omega arith)
          ∙ sym (ap (λ j. time_of shop j machine) same_job)
          ∙ sym (ap (λ k. time_of shop (8 * b + lane) k) same_machine)
    ]
