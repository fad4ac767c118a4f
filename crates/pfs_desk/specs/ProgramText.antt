-- How the program ends: what it writes to the error output, and its exit status.
use Rattle.std.specs.Prelude.{◌≡◌, ℕ, false, List, [], ◌∷◌, Result, Ok, Err, codes}
use Rattle.std.specs.List.{flat_map}
use Rattle.pfs_base.specs.declared.device.WriteFault.{WriteFault}
use Rattle.pfs_base.specs.Sends.{Prints}
use Rattle.pfs_base.specs.Text.{with_line_end}
use Rattle.pfs_desk.specs.declared.fault.Outcome.{Outcome}
use Rattle.pfs_desk.specs.declared.fault.Outcome.TheVariants.{Done, CheckFailed}
use Rattle.pfs_desk.specs.declared.fault.DeskFault.TheVariants as faults
use Rattle.pfs_desk.specs.declared.files.OpenFault.{OpenFault}
use Rattle.pfs_desk.specs.declared.files.OpenFault.TheVariants as open_faults
use Rattle.pfs_desk.specs.declared.stop.Stop.{Stop}
use Rattle.pfs_desk.specs.declared.stop.Stop.TheVariants as stops
use Rattle.pfs_words.specs.declared.usage.UsageFault.{UsageFault}
use Rattle.pfs_words.specs.declared.usage.UsageFault.TheVariants as usage_faults
use Rattle.pfs_desk.specs.FaultText.{fault_text, status_of}
use Rattle.pfs_desk.specs.Uses.{SinkUse}

-- the usage text: a first line, and a line for each command
unfoldable pub usage_text : List ℕ
usage_text = flat_map with_line_end (
    codes "pfs: usage"
    ∷ codes "pfs value --layout L [--block K] FILE"
    ∷ codes "pfs solve --layout L [--block K] [--rounds R] [--take D] [--seed S] [--passes P] [--cells] FILE"
    ∷ codes "pfs check --layout L [--block K] FILE ORDER"
    ∷ codes "pfs table --layout L [--block K] FILE ORDER"
    ∷ codes "pfs convert --from L --to L [--block K] FILE"
    ∷ codes "pfs generate N M SEED"
    ∷ [])

-- why the program stops without a job: the arguments are invalid, or a memory allocation failed
abbrev pub usage_stop : UsageFault → Stop
usage_stop usage_faults.Usage = stops.Usage
usage_stop usage_faults.Memory = stops.Fault faults.Memory

-- why the program stops without an open file: the file can't be opened, or a memory allocation failed
abbrev pub open_stop : OpenFault → Stop
open_stop open_faults.Closed = stops.Open
open_stop open_faults.Memory = stops.Fault faults.Memory

-- the text on the error output for a stop
abbrev pub stop_text : Stop → List ℕ
stop_text stops.Usage = usage_text
stop_text stops.Open = with_line_end (codes "pfs: cannot open")
stop_text (stops.Fault fault) = fault_text fault

-- 3 if the arguments are invalid, 4 if a file can't be opened, and else the status of the fault
abbrev pub stop_status_of : Stop → ℕ
stop_status_of stops.Usage = 3
stop_status_of stops.Open = 4
stop_status_of (stops.Fault fault) = status_of fault

-- 0 if the whole result was printed, 1 if it was printed and says that a check failed, and else the status of the stop
abbrev pub exit_status_of : Result Outcome Stop → ℕ
exit_status_of (Ok Done) = 0
exit_status_of (Ok CheckFailed) = 1
exit_status_of (Err stop) = stop_status_of stop

-- the text was written, or a prefix of it if a write failed
pub record ReportsText (text : List ℕ) (errors : SinkUse) : Type 0 where
  pub returned : Result (Unit {0}) WriteFault
  pub printed : Prints errors.old errors.new errors.failed text returned

-- what is written to the error output: why the program stopped, if it stopped, and else nothing
abbrev pub Reports : Result Outcome Stop → SinkUse → Type 0
Reports (Ok outcome) errors = (errors.failed ≡ false) × (errors.new ≡ errors.old)
Reports (Err stop) errors = ReportsText (stop_text stop) errors
