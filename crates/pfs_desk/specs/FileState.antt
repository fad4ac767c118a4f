-- What is at a path, as far as that is known, and the log of what was done with files.
use Rattle.std.specs.Prelude.{⊤, ◌≡◌, ℕ, Bool, List, ◌++◌, Option, None, Some, Result, Ok, Err}
use Rattle.pfs_desk.specs.declared.files.OpenFault.{OpenFault}
use Rattle.pfs_desk.specs.declared.files.OpenFault.TheVariants.{Closed, Memory}

-- what is at a path: unknown, no file that can be opened, or a file with these bytes
pub data FileState : Type 0 where
  unknown : FileState
  nothing : FileState
  bytes : List ℕ → FileState

-- an opening may give a file with these bytes: none if nothing is at the path, and the bytes at the path if these are
-- known
abbrev pub MayOpen : FileState → Option (List ℕ) → Type 0
MayOpen unknown file = ⊤
MayOpen nothing file = ⊥
MayOpen (bytes text) file = file ≡ Some text

-- an opening may fail with this fault: if there is known to be a file at the path, only for a failed memory allocation
abbrev pub MayFail : FileState → OpenFault → Type 0
MayFail state Memory = ⊤
MayFail unknown Closed = ⊤
MayFail nothing Closed = ⊤
MayFail (bytes text) Closed = ⊥

-- a path was opened; or it could not be opened, for this reason; or an open file was closed: with the bytes that were
-- left to read, if they are known, whether a read of it had failed, and whether one had reported its end
pub data FileEvent : Type 0 where
  opened : List ℕ → FileEvent
  not_opened : List ℕ → OpenFault → FileEvent
  closed : Option (List ℕ) → Bool → Bool → FileEvent

-- the event of an opening that has this result
abbrev pub open_event : {A : Type 0} → List ℕ → Result A OpenFault → FileEvent
open_event path (Ok file) = opened path
open_event path (Err fault) = not_opened path fault

-- these events were appended to the log, if it is known
abbrev pub Logs : Option (List FileEvent) → Option (List FileEvent) → List FileEvent → Type 0
Logs None log' events = ⊤
Logs (Some log) log' events = log' ≡ Some (log ++ events)
