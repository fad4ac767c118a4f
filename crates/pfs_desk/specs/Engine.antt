-- What an engine, the function that does a command's work, returns and writes. The bytes of a file are those that its
-- reader hasn't read yet, or `None` if they aren't known; nothing is said of bytes that aren't known.
use Rattle.std.specs.Prelude.{⊤, ◌≡◌, ◌≢◌, ◌↔◌, ℕ, ◌≤◌, true, false, List, Option, Some, None, Result, Ok, Err}
use Rattle.std.specs.Prelude.{◌⊎◌, IfSome}
use Rattle.std.specs.Io.KnownBytes.{Appends}
use Rattle.pfs_base.specs.Limits.{limits}
use Rattle.pfs_base.specs.Problem.{Problem}
use Rattle.pfs_base.specs.Sends.{SendsFront}
use Rattle.pfs_layout.specs.declared.layout.Layout.{Layout}
use Rattle.pfs_layout.specs.declared.fault.LayoutFault.{LayoutFault}
use Rattle.pfs_layout.specs.declared.fault.LayoutFault.TheVariants as layout_faults
use Rattle.pfs_layout.specs.declared.layout.Layout.TheVariants.{Taillard}
use Rattle.pfs_layout.specs.CanonicalText.{canonical_text}
use Rattle.pfs_layout.specs.File.{IsInstanceFile}
use Rattle.pfs_layout.specs.Generator.{generated}
use Rattle.pfs_layout.specs.Reader.{ReadsAsFar}
use Rattle.pfs_layout.specs.Rejection.{RejectsInstance}
use Rattle.pfs_order.specs.Sequence.{StatedOrder}
use Rattle.pfs_order.specs.OrderFile.{IsOrderFile, ReadsOrderAsFar, RejectsUnlessFailed}
use Rattle.pfs_order.specs.declared.fault.OrderFault.{OrderFault}
use Rattle.pfs_order.specs.declared.fault.OrderFault.TheVariants as order_faults
use Rattle.pfs_audit.specs.Verdicts.{SizesMatch, verdict_on}
use Rattle.pfs_desk.specs.declared.fault.Outcome.{Outcome}
use Rattle.pfs_desk.specs.declared.fault.Outcome.TheVariants.{Done}
use Rattle.pfs_desk.specs.declared.fault.DeskFault.{DeskFault}
use Rattle.pfs_desk.specs.declared.fault.DeskFault.TheVariants.{Order, Write}
use Rattle.pfs_desk.specs.declared.fault.DeskFault.TheVariants as faults
use Rattle.pfs_words.specs.declared.solve_options.SolveOptions.{SolveOptions}
use Rattle.pfs_desk.specs.Solve.{take_for, IsTakeFault, IsSolution}
use Rattle.pfs_desk.specs.Uses.{IsUnread, SinkUse, SourceUse}
use Rattle.pfs_desk.specs.OutputText.{value_text, verdict_text, outcome_of, TablePrints}

-- this block of an instance file, counted from 1, contains this problem
abbrev pub Holds : Layout → Option (List ℕ) → ℕ → Problem → Type 0
Holds layout file block problem = IfSome file (λ bytes. IsInstanceFile limits layout bytes block problem)

-- an instance file has this fault before the end of the block, or the fault is a failed read or memory allocation; it
-- is never that of a seed, since no seed is given
abbrev pub RejectsFirst : Layout → Option (List ℕ) → ℕ → LayoutFault → Type 0
RejectsFirst layout file block fault = (fault ≢ layout_faults.SeedRange)
    × (fault ≢ layout_faults.Read → fault ≢ layout_faults.Memory
    → IfSome file (λ bytes. RejectsInstance layout bytes block fault))

-- an order file states this order, this makespan and, if `stated` has it, this number of machines
abbrev pub States : Option (List ℕ) → StatedOrder → Type 0
States file stated = IfSome file (λ bytes. IsOrderFile bytes stated)

-- the block of the instance file contains a problem; and the order file is rejected with this fault, or the fault is a
-- failed read or memory allocation
pub record RejectsSecond (layout : Layout) (file : Option (List ℕ)) (block : ℕ) (order_file : Option (List ℕ))
    (fault : OrderFault) : Type 0 where
  pub problem : Problem
  pub holds : Holds layout file block problem
  pub rejected : IfSome order_file (λ bytes. RejectsUnlessFailed bytes fault)

-- when an engine with an order file allocates further memory: after both files were read, if the order file states an
-- order that fits the instance
pub record NeedsAfterBoth (layout : Layout) (file : Option (List ℕ)) (block : ℕ) (order_file : Option (List ℕ))
    : Type 0 where
  pub problem : Problem
  pub stated : StatedOrder
  pub holds : Holds layout file block problem
  pub states : States order_file stated
  pub fits : SizesMatch problem.shop stated

-- the block of the instance file contains a problem with fewer jobs than the stated destruction size; the fault has
-- both numbers
pub record RejectsTake (layout : Layout) (file : Option (List ℕ)) (block : ℕ) (asked : Option ℕ) (fault : DeskFault)
    : Type 0 where
  pub problem : Problem
  pub holds : Holds layout file block problem
  pub above : IsTakeFault asked problem.shop.jobs fault

-- the block contains a problem with at least as many jobs as the destruction size
pub record AllowsTake (layout : Layout) (file : Option (List ℕ)) (block : ℕ) (asked : Option ℕ) : Type 0 where
  pub problem : Problem
  pub holds : Holds layout file block problem
  pub within : take_for asked problem.shop.jobs ≤ problem.shop.jobs

-- the faults that each command may report, and when: here those of `value`. `WritesOutput` below says when that of a
-- write is reported
abbrev pub IsValueFault : Layout → Option (List ℕ) → ℕ → DeskFault → Type 0
IsValueFault layout file block (faults.Layout fault) = RejectsFirst layout file block fault
IsValueFault layout file block faults.Memory = (problem : Problem) × Holds layout file block problem
IsValueFault layout file block (Write fault) = ⊤
IsValueFault layout file block others = ⊥

-- those of `solve`: the destruction size is validated after the instance file and before more memory is allocated
abbrev pub IsSolveFault : Layout → Option (List ℕ) → ℕ → Option ℕ → DeskFault → Type 0
IsSolveFault layout file block asked (faults.Layout fault) = RejectsFirst layout file block fault
IsSolveFault layout file block asked (faults.TakeRange take jobs) =
    RejectsTake layout file block asked (faults.TakeRange take jobs)
IsSolveFault layout file block asked faults.Memory = AllowsTake layout file block asked
IsSolveFault layout file block asked (Write fault) = ⊤
IsSolveFault layout file block asked others = ⊥

-- those of `check` and of `table`: the order file is validated after the instance file
abbrev pub IsAuditFault : Layout → Option (List ℕ) → ℕ → Option (List ℕ) → DeskFault → Type 0
IsAuditFault layout file block order_file (faults.Layout fault) = RejectsFirst layout file block fault
IsAuditFault layout file block order_file (Order fault) = RejectsSecond layout file block order_file fault
IsAuditFault layout file block order_file faults.Memory = NeedsAfterBoth layout file block order_file
IsAuditFault layout file block order_file (Write fault) = ⊤
IsAuditFault layout file block order_file others = ⊥

-- those of `convert`, which allocates no memory after the instance file was read
abbrev pub IsConvertFault : Layout → Option (List ℕ) → ℕ → DeskFault → Type 0
IsConvertFault layout file block (faults.Layout fault) = RejectsFirst layout file block fault
IsConvertFault layout file block (Write fault) = ⊤
IsConvertFault layout file block others = ⊥

-- the fault of the instance file that a result reports, if it reports one
abbrev pub layout_fault_of : {A : Type 0} → Result A DeskFault → Option LayoutFault
layout_fault_of (Err (faults.Layout fault)) = Some fault
layout_fault_of others = None

-- the fault of the order file that a result reports, if it reports one
abbrev pub order_fault_of : {A : Type 0} → Result A DeskFault → Option OrderFault
order_fault_of (Err (Order fault)) = Some fault
order_fault_of others = None

-- how the instance file is read by an engine that reports this fault of it, or `None`
pub record ReadsBlock (layout : Layout) (block : ℕ) (source : SourceUse) (fault : Option LayoutFault) : Type 0 where
  -- a failed read is reported exactly if a read failed
  pub read : (fault ≡ Some layout_faults.Read) ↔ (source.failed ≡ true)
  -- if a read failed, then no read of this call reported the end
  pub before_end : fault ≡ Some layout_faults.Read → source.ended ≡ source.was_ended
  -- the file is read up to and with a last piece, before which more of it was needed
  pub as_far : IfSome source.given (λ bytes. ReadsAsFar layout block bytes source.left fault)

-- how far the order file is read: not at all if the instance file has a fault
abbrev pub ReadsSecond : SourceUse → Option LayoutFault → Option OrderFault → Type 0
ReadsSecond source (Some first) fault = IsUnread source
ReadsSecond source None fault = IfSome source.given (λ bytes. ReadsOrderAsFar bytes source.left fault)

-- how the order file is read by an engine that reports these faults of the instance file and of the order file
pub record ReadsOrder (source : SourceUse) (first : Option LayoutFault) (fault : Option OrderFault) : Type 0 where
  -- a failed read is reported exactly if a read failed
  pub read : (fault ≡ Some order_faults.Read) ↔ (source.failed ≡ true)
  -- if a read failed, then no read of this call reported the end
  pub before_end : fault ≡ Some order_faults.Read → source.ended ≡ source.was_ended
  pub as_far : ReadsSecond source first fault

-- all of an output was written
pub record WritesAll (output : Outcome → List ℕ → Type 0) (writer : SinkUse) (outcome : Outcome) : Type 0 where
  pub text : List ℕ
  pub is_output : output outcome text
  pub working : writer.failed ≡ false
  pub bytes : Appends writer.old writer.new text

-- the writer has failed, and a prefix of an output was written, as long as the fault's number `written` says
pub record WritesFront (output : Outcome → List ℕ → Type 0) (writer : SinkUse) (written : ℕ) : Type 0 where
  pub outcome : Outcome
  pub text : List ℕ
  pub is_output : output outcome text
  pub front : SendsFront writer.old writer.new writer.failed 0 text written

-- nothing was written
pub record WritesNothing (writer : SinkUse) : Type 0 where
  pub working : writer.failed ≡ false
  pub kept : writer.new ≡ writer.old

-- an engine wrote all of its output, or a prefix of it if a write failed, or nothing if it reports another fault
abbrev pub WritesOutput : (Outcome → List ℕ → Type 0) → SinkUse → Result Outcome DeskFault → Type 0
WritesOutput output writer (Ok outcome) = WritesAll output writer outcome
WritesOutput output writer (Err (Write fault)) = WritesFront output writer fault.written
WritesOutput output writer (Err others) = WritesNothing writer

-- the output of `value`: the makespan of the jobs of an instance in the order of their numbers
pub record ValueOutput (layout : Layout) (file : Option (List ℕ)) (block : ℕ) (outcome : Outcome) (text : List ℕ)
    : Type 0 where
  pub problem : Problem
  pub holds : Holds layout file block problem
  pub done : outcome ≡ Done
  pub spelled : text ≡ value_text problem.shop

-- the output of `solve`: what a search finds for an instance
pub record SolveOutput (layout : Layout) (file : Option (List ℕ)) (block : ℕ) (options : SolveOptions)
    (outcome : Outcome) (text : List ℕ) : Type 0 where
  pub problem : Problem
  pub holds : Holds layout file block problem
  pub done : outcome ≡ Done
  pub solution : IsSolution problem.shop options text

-- the output of `convert`: the problem of the block as a file with one block in the target layout
pub record ConvertOutput (source target : Layout) (file : Option (List ℕ)) (block : ℕ) (outcome : Outcome)
    (text : List ℕ) : Type 0 where
  pub problem : Problem
  pub holds : Holds source file block problem
  pub done : outcome ≡ Done
  pub spelled : text ≡ canonical_text target problem

-- the output of `generate`: the instance that Taillard's generator draws from a seed, in Taillard's layout
pub record GenerateOutput (jobs machines seed : ℕ) (outcome : Outcome) (text : List ℕ) : Type 0 where
  pub done : outcome ≡ Done
  pub spelled : text ≡ canonical_text Taillard (generated jobs machines seed)

-- the faults of `generate`: the seed is out of range, the allocation of the times fails, or a write fails
abbrev pub IsGenerateFault : DeskFault → Type 0
IsGenerateFault (faults.Layout fault) = (fault ≡ layout_faults.SeedRange) ⊎ (fault ≡ layout_faults.Memory)
IsGenerateFault (Write fault) = ⊤
IsGenerateFault others = ⊥

-- the output of `check`: the verdict on the order that an order file states for an instance
pub record CheckOutput (layout : Layout) (file : Option (List ℕ)) (block : ℕ) (order_file : Option (List ℕ))
    (outcome : Outcome) (text : List ℕ) : Type 0 where
  pub problem : Problem
  pub stated : StatedOrder
  pub holds : Holds layout file block problem
  pub states : States order_file stated
  pub checked : outcome ≡ outcome_of (verdict_on problem.shop stated)
  pub spelled : text ≡ verdict_text (verdict_on problem.shop stated)

-- the output of `table`: the time table of the order that an order file states for an instance; the stated makespan
-- isn't compared
pub record TableOutput (layout : Layout) (file : Option (List ℕ)) (block : ℕ) (order_file : Option (List ℕ))
    (outcome : Outcome) (text : List ℕ) : Type 0 where
  pub problem : Problem
  pub stated : StatedOrder
  pub holds : Holds layout file block problem
  pub states : States order_file stated
  pub prints : TablePrints problem.shop stated outcome text
