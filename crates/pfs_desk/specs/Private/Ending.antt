-- How the program opens two files, and how it ends after its output was flushed.
use Rattle.std.specs.Prelude.{◌≡◌, ℕ, false, List, [], ◌∷◌, Option, Result, Ok, Err, ◌⊎◌}
use Rattle.pfs_base.specs.declared.device.WriteFault.{WriteFault}
use Rattle.pfs_desk.specs.declared.fault.DeskFault.{DeskFault}
use Rattle.pfs_desk.specs.declared.fault.DeskFault.TheVariants as faults
use Rattle.pfs_desk.specs.declared.fault.Outcome.{Outcome}
use Rattle.pfs_desk.specs.declared.stop.Stop.{Stop}
use Rattle.pfs_desk.specs.declared.stop.Stop.TheVariants.{Fault}
use Rattle.pfs_desk.specs.declared.files.OpenFault.{OpenFault}
use Rattle.pfs_desk.specs.FileState.{MayOpen, MayFail, opened, not_opened, closed}
use Rattle.pfs_desk.specs.Uses.{Did, FilesUse}

-- both files were opened, one after the other
pub record OpensBoth (disk : FilesUse) (path order_path : List ℕ) (file orders : Option (List ℕ)) : Type 0 where
  pub give : MayOpen (disk.state path) file
  pub give_orders : MayOpen (disk.state order_path) orders
  pub events : Did disk (opened path ∷ opened order_path ∷ [])

-- the first path could not be opened
pub record FirstFails (disk : FilesUse) (path : List ℕ) (fault : OpenFault) : Type 0 where
  pub may_fail : MayFail (disk.state path) fault
  pub events : Did disk (not_opened path fault ∷ [])

-- the second path could not be opened, and the first file was closed unread
pub record SecondFails (disk : FilesUse) (path order_path : List ℕ) (fault : OpenFault) : Type 0 where
  pub file : Option (List ℕ)
  pub give : MayOpen (disk.state path) file
  pub may_fail : MayFail (disk.state order_path) fault
  pub events : Did disk (opened path ∷ not_opened order_path fault ∷ closed file false false ∷ [])

-- one of the two paths could not be opened
abbrev pub OneFails : FilesUse → List ℕ → List ℕ → OpenFault → Type 0
OneFails disk path order_path fault = FirstFails disk path fault ⊎ SecondFails disk path order_path fault

-- the result of an engine as the program's
abbrev pub ending : Result Outcome DeskFault → Result Outcome Stop
ending (Ok outcome) = Ok outcome
ending (Err fault) = Err (Fault fault)

-- a failed write is reported, with the number of bytes that were written
pub record ReportsSent (sent : ℕ) (ended : Result Outcome Stop) : Type 0 where
  pub fault : WriteFault
  pub reported : ended ≡ Err (Fault (faults.Write fault))
  pub counted : fault.written ≡ sent

-- how the program ends, by the engine's result: if it ends with an outcome, then no byte is left in the buffer; if a
-- write failed, then the fault has the number of bytes that were written; each other stop is kept
abbrev pub EndsOutput : Result Outcome Stop → List ℕ → ℕ → Result Outcome Stop → Type 0
EndsOutput (Ok outcome) held sent ended = ((ended ≡ Ok outcome) × (held ≡ [])) ⊎ ReportsSent sent ended
EndsOutput (Err (Fault (faults.Write before))) held sent ended = ReportsSent sent ended
EndsOutput (Err stop) held sent ended = ended ≡ Err stop
