-- Many sequences of equal length, one after the other in a list, and their makespans.
use Rattle.std.specs.Prelude.{◌≡◌, ℕ, ◌*◌, ◌<◌, List, [], ◌∷◌, length, map, slice_index, Option}
use Rattle.pfs_base.specs.FlowShop.{FlowShop}
use Rattle.pfs_base.specs.Lists.{below, first_some}
use Rattle.pfs_base.specs.Paths.{makespan}
use Rattle.pfs_batch.specs.SequenceLists.{sequence_at}
use Rattle.pfs_c.specs.declared.numbers.CallFault.{CallFault}
use Rattle.pfs_c.specs.Validation.{length_fault, jobs_fault}

-- the first fault in the sequences, one after the other, each from the left
abbrev pub sequences_fault : ℕ → ℕ → ℕ → List ℕ → Option CallFault
sequences_fault jobs count long sequences =
    first_some (map (λ index. jobs_fault jobs (sequence_at long sequences index)) (below count))

-- `room` is the length of the list for the makespans, one for each sequence
abbrev pub makespans_fault : FlowShop → List ℕ → ℕ → ℕ → Option CallFault
makespans_fault shop sequences long room =
    first_some (length_fault (length sequences) (room * long) ∷ sequences_fault shop.jobs room long sequences ∷ [])

-- the makespan of each sequence
abbrev pub AreMakespans : FlowShop → List ℕ → ℕ → List ℕ → Type 0
AreMakespans shop sequences long makespans = (index : ℕ) → index < length makespans
    → slice_index makespans index ≡ makespan shop (sequence_at long sequences index)
