-- What a call that writes a text returns, and the state in which it leaves the writer.
use Rattle.std.specs.Prelude.{◌≡◌, ℕ, ◌+◌, ◌-◌, ◌≤◌, Bool, true, false, List, length, take, Option, Result, Ok, Err}
use Rattle.std.specs.Io.KnownBytes.{Appends}
use Rattle.pfs_base.specs.declared.device.WriteFault.{WriteFault}

-- the writer has not failed, and all of the text was sent, with which `total` bytes were sent
pub record SendsAll (old new : Option (List ℕ)) (failed : Bool) (sent : ℕ) (text : List ℕ) (total : ℕ) : Type 0 where
  pub working : failed ≡ false
  pub counted : total ≡ sent + length text
  pub bytes : Appends old new text

-- the writer has failed, and a prefix of the text was sent, with which `reached` bytes were sent
pub record SendsFront (old new : Option (List ℕ)) (failed : Bool) (sent : ℕ) (text : List ℕ) (reached : ℕ)
    : Type 0 where
  pub stopped : failed ≡ true
  pub from : sent ≤ reached
  pub within : reached ≤ sent + length text
  pub bytes : Appends old new (take (reached - sent) text)

-- all of the text was sent, or the writer has failed and a prefix of the text was sent
abbrev pub Sends : Option (List ℕ) → Option (List ℕ) → Bool → ℕ → List ℕ → Result ℕ WriteFault → Type 0
Sends old new failed sent text (Ok total) = SendsAll old new failed sent text total
Sends old new failed sent text (Err fault) = SendsFront old new failed sent text fault.written

-- a whole text was sent, or the writer has failed and a prefix of the text was sent, as long as the fault says
abbrev pub Prints : {A : Type 0} → Option (List ℕ) → Option (List ℕ) → Bool → List ℕ → Result A WriteFault → Type 0
Prints old new failed text (Ok value) = (failed ≡ false) × Appends old new text
Prints old new failed text (Err fault) = SendsFront old new failed 0 text fault.written
