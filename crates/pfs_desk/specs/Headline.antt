-- What `solve` does with a file whose bytes are known. It is the same for all pieces in which reads may return them.
use Rattle.std.specs.Prelude.{◌≡◌, ◌≢◌, ℕ, ◌<◌, ◌≤◌, Bool, false, List, Some, Result, Ok, Err}
use Rattle.std.specs.Io.KnownBytes.{Appends}
use Rattle.pfs_base.specs.Limits.{limits}
use Rattle.pfs_base.specs.Problem.{Problem}
use Rattle.pfs_layout.specs.declared.fault.LayoutFault.{LayoutFault}
use Rattle.pfs_layout.specs.declared.fault.LayoutFault.TheVariants as layout_faults
use Rattle.pfs_layout.specs.declared.layout.Layout.{Layout}
use Rattle.pfs_layout.specs.File.{IsInstanceFile}
use Rattle.pfs_layout.specs.Rejection.{RejectsInstance}
use Rattle.pfs_desk.specs.declared.fault.DeskFault.{DeskFault}
use Rattle.pfs_desk.specs.declared.fault.DeskFault.TheVariants as faults
use Rattle.pfs_desk.specs.declared.fault.Outcome.{Outcome}
use Rattle.pfs_desk.specs.declared.fault.Outcome.TheVariants.{Done}
use Rattle.pfs_words.specs.declared.solve_options.SolveOptions.{SolveOptions}
use Rattle.pfs_desk.specs.Solve.{take_for, IsSolution}
use Rattle.pfs_desk.specs.Uses.{SinkUse}

-- no read failed, and memory for the instance was allocated
pub record ReadsOn (reader_failed : Bool) (result : Result Outcome DeskFault) : Type 0 where
  pub reading : reader_failed ≡ false
  pub room : result ≢ Err (faults.Layout layout_faults.Memory)

-- the same, and no write and no other memory allocation failed
pub record RunsOn (reader_failed writer_failed : Bool) (result : Result Outcome DeskFault) : Type 0 where
  pub reads : ReadsOn reader_failed result
  pub writing : writer_failed ≡ false
  pub room : result ≢ Err faults.Memory

-- a solution of this problem was written, and nothing else
pub record PrintsSolution (problem : Problem) (options : SolveOptions) (writer : SinkUse)
    (result : Result Outcome DeskFault) : Type 0 where
  pub done : result ≡ Ok Done
  pub text : List ℕ
  pub solution : IsSolution problem.shop options text
  pub bytes : Appends writer.old writer.new text

-- this fault was returned, and nothing was written
pub record ReportsFault (fault : DeskFault) (writer : SinkUse) (result : Result Outcome DeskFault) : Type 0 where
  pub reported : result ≡ Err fault
  pub kept : writer.new ≡ writer.old

-- what `solve` does with a file of these bytes
pub record Solves (layout : Layout) (file : List ℕ) (block : ℕ) (options : SolveOptions) (reader_failed : Bool)
    (writer : SinkUse) (result : Result Outcome DeskFault) : Type 0 where
  -- for each accepted instance with at least as many jobs as the destruction size, a solution is printed
  pub accepted : (problem : Problem) → IsInstanceFile limits layout file block problem
      → take_for options.take problem.shop.jobs ≤ problem.shop.jobs
      → RunsOn reader_failed writer.failed result → PrintsSolution problem options writer result
  -- each other file is rejected with its fault
  pub rejected : (fault : LayoutFault) → RejectsInstance layout file block fault
      → ReadsOn reader_failed result → ReportsFault (faults.Layout fault) writer result
  -- a stated destruction size above the number of jobs is rejected
  pub too_many : (problem : Problem) (asked : ℕ) → IsInstanceFile limits layout file block problem
      → options.take ≡ Some asked → problem.shop.jobs < asked
      → ReadsOn reader_failed result → ReportsFault (faults.TakeRange asked problem.shop.jobs) writer result
