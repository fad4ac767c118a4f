-- What the private functions that validate arguments must return.
use Rattle.std.specs.Prelude.{◌≡◌, Option, Some, None, Result, Err, IfErr, IsOk}
use Rattle.pfs_c.specs.declared.numbers.CallFault.{CallFault}
use Rattle.pfs_c.specs.declared.numbers.CallFault.TheVariants as faults

-- the result is this error; if there is none, the result is made, or the error is that an allocation failed
abbrev pub Rejects : {A : Type 0} → Result A CallFault → Option CallFault → Type 0
Rejects result (Some why) = result ≡ Err why
Rejects result None = IfErr result (λ why. why ≡ faults.Memory)

-- a check returns this error, and succeeds exactly if there is none
abbrev pub Validates : {A : Type 0} → Result A CallFault → Option CallFault → Type 0
Validates result (Some why) = result ≡ Err why
Validates result None = IsOk result
