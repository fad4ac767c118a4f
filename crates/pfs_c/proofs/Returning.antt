-- What a call returns if the function that it calls returns an error.
use Rattle.std.proofs.Common.{◌≡◌, ◌≢◌, ℤ, pos, Ok, Err, Option, Some, None, Result, IsOk, IfErr, ap, refl, ◌∙◌, inr}
use Rattle.pfs_c.specs.declared.numbers.CallFault.{CallFault}
use Rattle.pfs_c.specs.declared.numbers.CallFault.TheVariants.{Memory}
use Rattle.pfs_c.specs.Numbers.{Returns, fault_number, number_returned}
use Rattle.pfs_c.specs.Private.Outcomes.{Rejects, Validates}

pub rejected : (A : Type 0) (why : CallFault) (found : Option CallFault) (number : ℤ) → Rejects {A = A} (Err why) found
    → number ≡ fault_number why → Returns number found
rejected A why None number h is = inr (is ∙ ap fault_number h)
rejected A why (Some other) number h is = let same : why ≡ other = cc in is ∙ ap fault_number same

-- a check that succeeds has found no fault
pub passed : (A : Type 0) (value : A) (found : Option CallFault) → Validates {A = A} (Ok value) found → found ≡ None
passed A value None h = refl
passed A value (Some why) h = absurd cc

-- a check that fails has found this fault
pub failed : (A : Type 0) (why : CallFault) (found : Option CallFault) (number : ℤ) → Validates {A = A} (Err why) found
    → number ≡ fault_number why → number ≡ number_returned found
failed A why None number h is = absurd cc
failed A why (Some other) number h is = let same : why ≡ other = cc in is ∙ ap fault_number same

-- an allocation fails after a check has found no fault
pub allocated : (A B : Type 0) (value : B) (found : Option CallFault) → Validates {A = B} (Ok value) found
    → Rejects {A = A} (Err Memory) found
allocated A B value None h = refl
allocated A B value (Some why) h = absurd cc

-- a call that succeeds unless it finds a fault returns the number of that
pub returned : (A : Type 0) (done : Result A CallFault) (found : Option CallFault) (number : ℤ) → Validates done found
    → (IsOk done → number ≡ pos 0) → IfErr done (λ why. (number ≡ fault_number why) × (number ≢ pos 0))
    → number ≡ number_returned found
returned A done None number h ok err = ok h
returned A done (Some why) number h ok err = (rw h at err).0
