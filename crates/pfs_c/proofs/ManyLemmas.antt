-- Sequences that are validated one after the other.
use Rattle.std.proofs.Common.{◌≡◌, ℕ, ◌+◌, ◌-◌, ◌*◌, ◌<◌, List, take, drop, ap, sym, ◌∙◌, arith}
use Rattle.std.proofs.Common.{Err, Option, Some, None}
use Rattle.pfs_c.specs.declared.numbers.CallFault.{CallFault}
use Rattle.pfs_c.specs.Validation.{jobs_fault}
use Rattle.pfs_batch.specs.SequenceLists.{sequence_at}
use Rattle.pfs_c.specs.Makespans.{sequences_fault}
use Rattle.pfs_c.specs.Private.Outcomes.{Validates}
use Rattle.pfs_c.proofs.Jobs.{first_below}

pub valid_why : (A : Type 0) (why : CallFault) (found : Option CallFault) → Validates {A = A} (Err why) found
    → found ≡ Some why
valid_why A why None h = absurd (cc)
valid_why A why (Some other) h = cc

-- a sequence is the slice that the program takes
pub same_slice : (long : ℕ) (sequences : List ℕ) (index : ℕ)
    → take (index * long + long - index * long) (drop (index * long) sequences) ≡ sequence_at long sequences index
same_slice long sequences index =
    let all : index * long + long - index * long ≡ long = omega arith in
    ap (λ n. take n (drop (index * long) sequences)) all

module _ (size count long : ℕ) (sequences : List ℕ) where
  abbrev wrong_at : ℕ → Option CallFault
  wrong_at index = jobs_fault size (sequence_at long sequences index)

  pub one_wrong : (A : Type 0) (index : ℕ) (why : CallFault) → index < count → ((k : ℕ) → k < index → wrong_at k ≡ None)
      → Validates {A = A} (Err why)
      (jobs_fault size (take (index * long + long - index * long) (drop (index * long) sequences)))
      → sequences_fault size count long sequences ≡ Some why
  one_wrong A index why within none wrong =
      first_below wrong_at count index why within none
      (ap (jobs_fault size) (sym (same_slice long sequences index)) ∙ valid_why A why _ wrong)
