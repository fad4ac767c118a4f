-- The rows of a list of parts.
use Rattle.std.specs.Prelude.{◌≡◌, ℕ, ◌+◌, ◌-◌, ◌<◌, ◌≤◌, List, length, slice_index, slice_index_or}
use Rattle.pfs_batch.specs.SequenceLists.{sequence_at}
use Rattle.pfs_exact.specs.declared.parts.Part.{Part}
use Rattle.pfs_c.specs.declared.parts.TheConstants.{PFS_OPEN}

-- a row has the jobs of a part at its ends, and PFS_OPEN at each place between
pub record IsRow (jobs : ℕ) (part : Part) (row : List ℕ) : Type 0 where
  pub long : length row ≡ jobs
  pub few : length part.front.jobs + length part.back.jobs ≤ jobs
  pub front : (place : ℕ) → place < length part.front.jobs → slice_index row place ≡ slice_index part.front.jobs place
  pub between : (place : ℕ) → length part.front.jobs ≤ place → place < jobs - length part.back.jobs
      → slice_index row place ≡ PFS_OPEN
  pub back : (place : ℕ) → place < length part.back.jobs
      → slice_index row (jobs - length part.back.jobs + place) ≡ slice_index part.back.jobs place

-- the first rows of a list are those of the parts
abbrev pub AreRows : ℕ → List Part → List ℕ → Type 0
AreRows jobs parts rows = (index : ℕ) (d : Part) → index < length parts
    → IsRow jobs (slice_index_or parts index d) (sequence_at jobs rows index)

-- the first numbers are the bounds of the parts
abbrev pub AreBounds : List Part → List ℕ → Type 0
AreBounds parts bounds = (index : ℕ) (d : Part) → index < length parts
    → slice_index bounds index ≡ (slice_index_or parts index d).bound
