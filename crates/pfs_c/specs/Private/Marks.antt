-- Jobs that are marked one after the other.
use Rattle.std.specs.Prelude.{◌≡◌, ◌↔◌, ℕ, ◌<◌, ◌≤◌, Bool, false, List, length, take, nat_eq, slice_index_or, cond, count_ones}
use Rattle.std.specs.Int.{bit_at}
use Rattle.std.specs.List.{list_any}
use Rattle.pfs_order.specs.Sequence.{IsSequence}

-- every job below the size has a mark, the jobs before a place are marked and no others, and it is known whether one of
-- them is repeated
pub record AreMarked (size : ℕ) (jobs : List ℕ) (marks : List Bool) (is_repeated : Bool) (place : ℕ) : Type 0 where
  pub long : size ≤ length marks
  pub marked : (job : ℕ) (d : Bool) → job < length marks
      → slice_index_or marks job d ≡ list_any (nat_eq job) (take place jobs)
  pub repeated : (is_repeated ≡ false) ↔ IsSequence size (take place jobs)

-- the jobs before a place have their bits in a word, no others have, and there are as many only if they are distinct
pub record AreBits (size : ℕ) (jobs : List ℕ) (marks : ℕ) (place : ℕ) : Type 0 where
  pub marked : (job : ℕ) → bit_at marks job ≡ cond (list_any (nat_eq job) (take place jobs)) 1 0
  pub few : count_ones marks ≤ place
  pub distinct : (count_ones marks ≡ place) ↔ IsSequence size (take place jobs)
