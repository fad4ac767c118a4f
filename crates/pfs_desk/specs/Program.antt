-- What the program does for a job: which files it opens and closes, in which order, how far its engine reads them, and
-- what it prints or which fault it reports.
use Rattle.std.specs.Prelude.{⊤, ◌≡◌, ◌↔◌, ℕ, Bool, true, false, List, [], ◌∷◌, ◌++◌, map, Option, None, Some}
use Rattle.std.specs.Prelude.{Result, Ok, Err, ◌⊎◌}
use Rattle.std.specs.Io.KnownBytes.{Appends}
use Rattle.pfs_base.specs.declared.device.WriteFault.{WriteFault}
use Rattle.pfs_base.specs.Sends.{SendsFront}
use Rattle.pfs_layout.specs.declared.fault.LayoutFault.{LayoutFault}
use Rattle.pfs_layout.specs.declared.fault.LayoutFault.TheVariants.{SeedRange}
use Rattle.pfs_layout.specs.declared.layout.Layout.{Layout}
use Rattle.pfs_layout.specs.Generator.{IsSeed}
use Rattle.pfs_order.specs.declared.fault.OrderFault.{OrderFault}
use Rattle.pfs_words.specs.declared.job.Job.{Job}
use Rattle.pfs_words.specs.declared.job.Job.TheVariants as job
use Rattle.pfs_desk.specs.declared.fault.DeskFault.{DeskFault}
use Rattle.pfs_desk.specs.declared.fault.DeskFault.TheVariants as faults
use Rattle.pfs_desk.specs.declared.fault.Outcome.{Outcome}
use Rattle.pfs_desk.specs.declared.files.OpenFault.{OpenFault}
use Rattle.pfs_desk.specs.declared.stop.Stop.{Stop}
use Rattle.pfs_desk.specs.declared.stop.Stop.TheVariants.{Fault}
use Rattle.pfs_desk.specs.Engine.{ValueOutput, SolveOutput, CheckOutput, TableOutput, ConvertOutput, GenerateOutput}
use Rattle.pfs_desk.specs.Engine.{IsValueFault, IsSolveFault, IsAuditFault, IsConvertFault, IsGenerateFault}
use Rattle.pfs_desk.specs.Engine.{ReadsBlock, ReadsOrder}
use Rattle.pfs_desk.specs.ProgramText.{open_stop}
use Rattle.pfs_desk.specs.FileState.{FileState, MayOpen, MayFail, FileEvent, opened, not_opened, closed}
use Rattle.pfs_desk.specs.Uses.{Did, FilesUse, IsUnread, SinkUse, SourceUse, source_use}

-- the result of a job: a text to print and the outcome after it, or why the program stops without one
pub data JobResult : Type 0 where
  prints : Outcome → List ℕ → JobResult
  stops : Stop → JobResult

-- the fault of the instance file that a job's result reports, if it reports one
abbrev pub layout_fault_in : JobResult → Option LayoutFault
layout_fault_in (stops (Fault (faults.Layout fault))) = Some fault
layout_fault_in others = None

-- the fault of the order file that a job's result reports, if it reports one
abbrev pub order_fault_in : JobResult → Option OrderFault
order_fault_in (stops (Fault (faults.Order fault))) = Some fault
order_fault_in others = None

-- ---- what is read

-- an open file of which nothing was read
abbrev pub unread : Option (List ℕ) → SourceUse
unread given = source_use given given false false false

-- the paths that a job names, in the order in which they are opened
abbrev pub paths_of : Job → List (List ℕ)
paths_of (job.Value layout block None) = []
paths_of (job.Value layout block (Some path)) = path ∷ []
paths_of (job.Solve layout block options path) = path ∷ []
paths_of (job.Check layout block path order_path) = path ∷ order_path ∷ []
paths_of (job.Table layout block path order_path) = path ∷ order_path ∷ []
paths_of (job.Convert source target block path) = path ∷ []
paths_of (job.Generate jobs machines seed) = []

-- each of these opened files has the bytes at its path, and no read of it had reported the end
abbrev pub GiveFiles : (List ℕ → FileState) → List (List ℕ) → List SourceUse → Type 0
GiveFiles state [] [] = ⊤
GiveFiles state (path ∷ paths) (file ∷ files) =
    MayOpen (state path) file.given × (file.was_ended ≡ false) × GiveFiles state paths files
GiveFiles state paths files = ⊥

-- the event of closing a file after this use
abbrev pub closing : SourceUse → FileEvent
closing file = closed file.left file.failed file.ended

-- all paths were opened, one after the other; then the files were read, and closed
pub record ReadsFiles (disk : FilesUse) (paths : List (List ℕ)) (files : List SourceUse) : Type 0 where
  pub give : GiveFiles disk.state paths files
  pub events : Did disk (map opened paths ++ map closing files)

-- a path could not be opened: those before it were, and their files were closed unread
pub record StopsAtPath (disk : FilesUse) (paths : List (List ℕ)) (returned : JobResult) : Type 0 where
  pub before : List (List ℕ)
  pub path : List ℕ
  pub after : List (List ℕ)
  pub given : List (Option (List ℕ))
  pub fault : OpenFault
  pub parts : paths ≡ before ++ path ∷ after
  pub give : GiveFiles disk.state before (map unread given)
  pub may_fail : MayFail (disk.state path) fault
  pub events : Did disk (map opened before ++ not_opened path fault ∷ map closing (map unread given))
  pub reported : returned ≡ stops (open_stop fault)

-- ---- what an engine returns

-- the result is one of the engine's outputs, or one of its faults, but not a failed write, which may follow any output
abbrev pub IsResultOf : (Outcome → List ℕ → Type 0) → (DeskFault → Type 0) → JobResult → Type 0
IsResultOf Output IsFault (prints outcome text) = Output outcome text
IsResultOf Output IsFault (stops (Fault (faults.Write fault))) = ⊥
IsResultOf Output IsFault (stops (Fault fault)) = IsFault fault
IsResultOf Output IsFault (stops others) = ⊥

-- the engine has this result for a block of an instance file, which was read as far as needed
pub record ReturnsOn (layout : Layout) (block : ℕ) (Output : Outcome → List ℕ → Type 0) (IsFault : DeskFault → Type 0)
    (file : SourceUse) (returned : JobResult) : Type 0 where
  pub is : IsResultOf Output IsFault returned
  pub reads : ReadsBlock layout block file (layout_fault_in returned)

-- the engine has this result for a block of an instance file and an order file
pub record ReturnsOnBoth (layout : Layout) (block : ℕ) (Output : Outcome → List ℕ → Type 0) (file orders : SourceUse)
    (returned : JobResult) : Type 0 where
  pub first : ReturnsOn layout block Output (IsAuditFault layout file.given block orders.given) file returned
  pub reads_order : ReadsOrder orders (layout_fault_in returned) (order_fault_in returned)

-- the engine of `value` has this result for a block of an instance file
abbrev pub ReturnsValue : Layout → ℕ → SourceUse → JobResult → Type 0
ReturnsValue layout block file returned =
    ReturnsOn layout block (ValueOutput layout file.given block) (IsValueFault layout file.given block) file returned

-- the engine of a job has this result on standard input, or on the files at the job's paths
abbrev pub ReturnsFor : Job → SourceUse → List SourceUse → JobResult → Type 0
ReturnsFor (job.Value layout block None) input [] returned = ReturnsValue layout block input returned
ReturnsFor (job.Value layout block (Some path)) input (file ∷ []) returned =
    IsUnread input × ReturnsValue layout block file returned
ReturnsFor (job.Solve layout block options path) input (file ∷ []) returned = IsUnread input
    × ReturnsOn layout block (SolveOutput layout file.given block options)
    (IsSolveFault layout file.given block options.take) file returned
ReturnsFor (job.Check layout block path order_path) input (file ∷ orders ∷ []) returned = IsUnread input
    × ReturnsOnBoth layout block (CheckOutput layout file.given block orders.given) file orders returned
ReturnsFor (job.Table layout block path order_path) input (file ∷ orders ∷ []) returned = IsUnread input
    × ReturnsOnBoth layout block (TableOutput layout file.given block orders.given) file orders returned
ReturnsFor (job.Convert source target block path) input (file ∷ []) returned = IsUnread input
    × ReturnsOn source block (ConvertOutput source target file.given block) (IsConvertFault source file.given block)
    file returned
ReturnsFor (job.Generate jobs machines seed) input [] returned = IsUnread input
    × IsResultOf (GenerateOutput jobs machines seed) IsGenerateFault returned
    × ((layout_fault_in returned ≡ Some SeedRange) ↔ (¬ IsSeed seed))
ReturnsFor others input files returned = ⊥

-- all files of the job were opened, read and closed, and the job's engine has this result
pub record RunsEngine (asked : Job) (disk : FilesUse) (input : SourceUse) (returned : JobResult) : Type 0 where
  pub files : List SourceUse
  pub reads : ReadsFiles disk (paths_of asked) files
  pub has_result : ReturnsFor asked input files returned

-- what the program does for a job, and the job's result: a path could not be opened, or the engine ran
abbrev pub RunsJob : Job → FilesUse → SourceUse → JobResult → Type 0
RunsJob asked disk input returned =
    (IsUnread input × StopsAtPath disk (paths_of asked) returned) ⊎ RunsEngine asked disk input returned

-- ---- what is written of the result

-- whether a result reports a failed write
abbrev pub reports_write : Result Outcome Stop → Bool
reports_write (Err (Fault (faults.Write fault))) = true
reports_write others = false

-- some result of a job was written to the output as `IsWritten` says, and a failed write is reported exactly if a
-- write failed
pub record Delivers (IsResult : JobResult → Type 0) (IsWritten : SinkUse → JobResult → Result Outcome Stop → Type 0)
    (output : SinkUse) (result : Result Outcome Stop) : Type 0 where
  pub returned : JobResult
  pub is_result : IsResult returned
  pub is_written : IsWritten output returned result
  pub write_failed : output.failed ≡ reports_write result

-- a write failed after a prefix of the text
pub record WritesFrontOf (text : List ℕ) (output : SinkUse) (result : Result Outcome Stop) : Type 0 where
  pub fault : WriteFault
  pub reported : result ≡ Err (Fault (faults.Write fault))
  pub front : SendsFront output.old output.new output.failed 0 text fault.written

-- all of the result's text was written, or a prefix of it if a write failed, and nothing if the result has no text
abbrev pub WritesResult : SinkUse → JobResult → Result Outcome Stop → Type 0
WritesResult output (prints outcome text) result =
    ((result ≡ Ok outcome) × Appends output.old output.new text) ⊎ WritesFrontOf text output result
WritesResult output (stops stop) result = (result ≡ Err stop) × (output.failed ≡ false) × (output.new ≡ output.old)
