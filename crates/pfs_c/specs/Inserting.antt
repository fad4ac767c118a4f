-- The first fault in the arguments of `pfs_insertions`, and the makespans that it returns if there is none.
use Rattle.std.specs.Prelude.{◌≡◌, ℕ, ◌+◌, ◌≤◌, List, [], ◌∷◌, length, slice_index, Option}
use Rattle.pfs_base.specs.FlowShop.{FlowShop}
use Rattle.pfs_base.specs.Lists.{first_some}
use Rattle.pfs_insert.specs.Insertion.{makespan_with}
use Rattle.pfs_c.specs.declared.numbers.CallFault.{CallFault}
use Rattle.pfs_c.specs.Validation.{length_fault, jobs_fault, job_fault}

-- `room` is the length of the list for the makespans
abbrev pub insertions_fault : FlowShop → List ℕ → ℕ → ℕ → Option CallFault
insertions_fault shop sequence job room = first_some (length_fault room (length sequence + 1)
    ∷ jobs_fault shop.jobs sequence ∷ job_fault shop.jobs sequence job ∷ [])

-- the makespan with a job inserted at each place of a sequence, including the place after its last job
pub record AreInsertions (shop : FlowShop) (jobs : List ℕ) (job : ℕ) (makespans : List ℕ) : Type 0 where
  pub long : length makespans ≡ length jobs + 1
  pub each : (place : ℕ) → place ≤ length jobs → slice_index makespans place ≡ makespan_with shop jobs job place
