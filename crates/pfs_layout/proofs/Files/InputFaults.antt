-- Every fault that the definitions find at a place is one of the input: not a failed read, a failed allocation or a
-- seed that is out of range.
use Rattle.pfs_layout.proofs.Words.{arith, ◌≡◌, ℕ, Bool, true, false, List, take, Option, Some, None, slice_get, Layout}
use Rattle.pfs_layout.proofs.Words.{LayoutFault, SeedRange, Read, Memory, Due, mixed_line, misfit, wrong_number}
use Rattle.pfs_layout.proofs.Words.{wrong_size, ends_early, fault_of_place, RejectsInstance, Block}

abbrev pub is_input_fault : LayoutFault → Bool
is_input_fault SeedRange = false
is_input_fault Read = false
is_input_fault Memory = false
is_input_fault other = true

-- none, or a fault of the input
abbrev of_input : Option LayoutFault → Bool
of_input None = true
of_input (Some fault) = is_input_fault fault

of_misfit : (due : Due) (number offset : ℕ) → of_input (misfit due number offset) ≡ true
of_misfit due number offset = grind arith

module _ (layout : Layout) (text : List ℕ) (next : Option ℕ) where
  of_number : (block : Block) → of_input (wrong_number layout block text next) ≡ true
  unfolding wrong_number
  of_number block = grind (arith, of_misfit)

  -- the fault of a place, if it has one, is one of the input
  pub of_place : (k : ℕ) → of_input (fault_of_place layout k text next) ≡ true
  unfolding fault_of_place mixed_line wrong_size ends_early
  of_place k = grind (arith, of_number)

-- a rejected input has a fault of the input
pub rejected_input : (layout : Layout) (input : List ℕ) (k : ℕ) (fault : LayoutFault)
    → RejectsInstance layout input k fault
    → is_input_fault fault ≡ true
rejected_input layout input k fault rejected =
    rw rejected.here at (of_place layout (take rejected.place input) (slice_get input rejected.place) k)
