-- Lists and rows that a loop fills, place by place.
use Rattle.std.proofs.Common.{◌≡◌, ℕ, ◌+◌, ◌<◌, List, length, get_or, slice_set, ◌∙◌, inl, inr, arith}
use Rattle.std.proofs.lemmas.Bool.{cases_eq}
use Rattle.std.proofs.lemmas.List.{length-set, get_or-set_same, get_or-set_other}
use Rattle.pfs_batch.specs.Private.Ends.{cell, values_of}
use Rattle.pfs_batch.specs.declared.lanes.Lanes.{Lanes}
use Rattle.pfs_batch.proofs.RowSteps.{set_here, set_there}

-- the first numbers of a list of `count` numbers are these
pub record IsFilledTo (count : ℕ) (f : ℕ → ℕ) (to : ℕ) (xs : List ℕ) : Type 0 where
  pub long : length xs ≡ count
  pub same : (k : ℕ) → k < to → get_or xs k 0 ≡ f k

pub filled_more : (count : ℕ) (f : ℕ → ℕ) (to : ℕ) (xs : List ℕ) (x : ℕ) → IsFilledTo count f to xs → to < count
    → x ≡ f to → IsFilledTo count f (to + 1) (slice_set xs to x)
filled_more count f to xs x so_far lt is =
    let long = so_far.long in
    record {
      long = length-set xs to x ∙ long;
      same = λ k less. elim (cases_eq k to) [
        | inl here ↦ rw here (get_or-set_same xs to x 0 (omega arith) ∙ is)
        | inr other ↦ get_or-set_other xs to k x 0 other ∙ so_far.same k (omega (arith, other))
      ];
    }

-- the first machines of a row of `count` machines have these values
pub record IsRowFilledTo (count : ℕ) (f : ℕ → ℕ → ℕ) (to : ℕ) (row : List Lanes) : Type 0 where
  pub long : length row ≡ count
  pub same : (machine lane : ℕ) → machine < to → lane < 8 → cell (values_of row) machine lane ≡ f machine lane

pub row_filled_more : (count : ℕ) (f : ℕ → ℕ → ℕ) (to : ℕ) (row : List Lanes) (new : Lanes)
    → IsRowFilledTo count f to row → to < count
    → ((lane : ℕ) → lane < 8 → get_or new.values lane 0 ≡ f to lane)
    → IsRowFilledTo count f (to + 1) (slice_set row to new)
row_filled_more count f to row new so_far lt is =
    let long = so_far.long in
    record {
      long = length-set row to new ∙ long;
      same = λ machine lane less lane_lt. elim (cases_eq machine to) [
        | inl here ↦ rw here (set_here row to new lane (omega arith) ∙ is lane lane_lt)
        | inr other ↦ set_there row to new machine lane other ∙ so_far.same machine lane (omega (arith, other)) lane_lt
      ];
    }
