-- Rows of parts, the first fault in the arguments of `pfs_prove_parts`, and what it returns. A row has the first jobs of a
-- part, PFS_OPEN at each place between, and the last jobs.
use Rattle.std.specs.Prelude.{◌≡◌, ℕ, ◌+◌, ◌*◌, ◌/◌, ◌<◌, ◌≤◌, ◌⊎◌, List, [], ◌∷◌, length, map, min, nat_eq, nat_le, slice_index}
use Rattle.std.specs.Prelude.{Option, if◌then◌else◌}
use Rattle.pfs_audit.specs.Bound.{bound_of}
use Rattle.pfs_base.specs.FlowShop.{FlowShop}
use Rattle.pfs_base.specs.Lists.{below, first_some}
use Rattle.pfs_base.specs.Paths.{makespan}
use Rattle.pfs_batch.specs.SequenceLists.{sequence_at}
use Rattle.pfs_exact.specs.declared.prove.TheConstants.{MOST_PROVED_JOBS, MOST_PROVED_MACHINES}
use Rattle.pfs_order.specs.Sequence.{IsSequence}
use Rattle.pfs_c.specs.declared.numbers.CallFault.{CallFault}
use Rattle.pfs_c.specs.declared.numbers.CallFault.TheVariants.{Size}
use Rattle.pfs_c.specs.declared.parts.Proof.{Proof}
use Rattle.pfs_c.specs.declared.parts.TheConstants.{PFS_OPEN}
use Rattle.pfs_c.specs.Texts.{room_fault}
use Rattle.pfs_c.specs.Validation.{unless, length_fault, jobs_fault}

-- ---- rows

-- a list without PFS_OPEN at its front
abbrev pub after_open : List ℕ → List ℕ
after_open [] = []
after_open (place ∷ more) = if nat_eq place PFS_OPEN then after_open more else (place ∷ more)

-- a row without its first run of PFS_OPEN
abbrev pub jobs_of : List ℕ → List ℕ
jobs_of [] = []
jobs_of (place ∷ more) = if nat_eq place PFS_OPEN then after_open more else (place ∷ jobs_of more)

-- at each place the row has the order's job or PFS_OPEN
abbrev pub IsInRow : List ℕ → List ℕ → Type 0
IsInRow order row = (place : ℕ) → place < length order
    → (slice_index row place ≡ slice_index order place) ⊎ (slice_index row place ≡ PFS_OPEN)

-- an order is in one of the first rows of a list, one for each index
abbrev pub IsInRows : List ℕ → ℕ → ℕ → List ℕ → Type 0
IsInRows order jobs count rows =
    (index : ℕ) × ((index < count) × IsInRow order (sequence_at jobs rows index))

-- what holds of each order of all jobs
abbrev pub Each : FlowShop → (List ℕ → Type 0) → Type 0
Each shop Is = (order : List ℕ) → IsSequence shop.jobs order → length order ≡ shop.jobs → Is order

-- ---- faults

-- the first fault in the rows, each from the left
abbrev pub rows_fault : ℕ → ℕ → List ℕ → Option CallFault
rows_fault jobs count rows = first_some (map (λ index. jobs_fault jobs (jobs_of (sequence_at jobs rows index))) (below count))

-- `start` is the order to start from; there is room for `room` rows, of which `count` are given
abbrev pub prove_parts_fault : FlowShop → List ℕ → List ℕ → ℕ → ℕ → Option CallFault
prove_parts_fault shop start rows room count = first_some (length_fault (length start) shop.jobs
    ∷ length_fault (length rows) (room * shop.jobs) ∷ jobs_fault shop.jobs start
    ∷ unless (nat_le shop.jobs MOST_PROVED_JOBS) Size ∷ unless (nat_le shop.machines MOST_PROVED_MACHINES) Size
    ∷ room_fault room (count + shop.jobs * (shop.jobs + 1) / 2) ∷ rows_fault shop.jobs count rows ∷ [])

-- ---- the result

-- a search of the orders in the given rows has found an order of all jobs with its makespan. Each order in the given rows
-- is in the rows that are left, or not below the makespan and the limit; none is shorter than the bound
pub record IsSearched (shop : FlowShop) (start given : List ℕ) (asked : Proof) (order rows bounds : List ℕ) (proof : Proof)
    : Type 0 where
  pub sequence : IsSequence shop.jobs order
  pub full : length order ≡ shop.jobs
  pub exact : proof.makespan ≡ makespan shop order
  pub no_longer : proof.makespan ≤ makespan shop start
  pub untouched : asked.nodes ≡ 0 → order ≡ start
  pub covered : Each shop (λ other. IsInRows other shop.jobs asked.count given
      → (min proof.makespan asked.limit ≤ makespan shop other) ⊎ IsInRows other shop.jobs proof.count rows)
  pub low : Each shop (λ other. IsInRows other shop.jobs asked.count given → proof.bound ≤ makespan shop other)
  pub raised : bound_of shop ≤ proof.bound
  pub each : (index : ℕ) → index < proof.count → Each shop (λ other. IsInRow other (sequence_at shop.jobs rows index)
      → slice_index bounds index ≤ makespan shop other)
  pub ended : 1 ≤ proof.left → proof.count ≡ 0
  pub closed : proof.count ≡ 0 → min proof.makespan asked.limit ≤ proof.bound
  pub budget : proof.left ≤ asked.nodes
  pub limit : proof.limit ≡ asked.limit
  pub nodes : proof.nodes ≡ asked.nodes
