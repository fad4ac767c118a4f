-- From the result of an engine to the result of its job.
use Rattle.std.proofs.Common.{◌≡◌, ℕ, Bool, false, List, [], ◌∷◌, ◌++◌, Option, Some, Result, Ok, Err, IfErr}
use Rattle.std.proofs.Common.{arith, inl, inr, sym, refl, ◌∙◌, append_assoc, append-nil}
use Rattle.pfs_layout.specs.declared.layout.Layout.{Layout}
use Rattle.pfs_layout.specs.declared.fault.LayoutFault.{LayoutFault}
use Rattle.pfs_words.specs.declared.job.Job.{Job}
use Rattle.pfs_desk.specs.declared.fault.DeskFault.{DeskFault}
use Rattle.pfs_desk.specs.declared.fault.DeskFault.TheVariants as faults
use Rattle.pfs_desk.specs.declared.fault.Outcome.{Outcome}
use Rattle.pfs_desk.specs.declared.files.OpenFault.{OpenFault}
use Rattle.pfs_desk.specs.declared.stop.Stop.{Stop}
use Rattle.pfs_desk.specs.Engine.{WritesOutput, IsAuditFault, ReadsBlock, ReadsOrder, WritesNothing}
use Rattle.pfs_desk.specs.Uses.{Did, FilesUse, IsUnread, SinkUse, SourceUse, files_use, sink_use}
use Rattle.pfs_desk.specs.Engine.{layout_fault_of, order_fault_of}
use Rattle.pfs_desk.specs.Private.Ending.{ending, OpensBoth, OneFails}
use Rattle.pfs_desk.specs.Program.{JobResult, prints, stops, layout_fault_in, order_fault_in, closing}
use Rattle.pfs_desk.specs.Program.{StopsAtPath, ReadsFiles, IsResultOf, ReturnsOn, ReturnsOnBoth, ReturnsFor, RunsJob}
use Rattle.pfs_desk.specs.Program.{Delivers}
use Rattle.pfs_desk.specs.Program.{paths_of, WritesResult, reports_write}
use Rattle.pfs_desk.specs.ProgramText.{open_stop}
use Rattle.pfs_desk.specs.FileState.{FileState, FileEvent, Logs, MayOpen, MayFail, opened, not_opened}

pub logs_then : (a b c : Option (List FileEvent)) (xs ys : List FileEvent) → Logs a b xs → Logs b c ys
    → Logs a c (xs ++ ys)
logs_then a b c xs ys p q = grind (arith, append_assoc)

pub logs_none : (a : Option (List FileEvent)) → Logs a a []
logs_none a = grind (arith, append-nil)

-- no file was opened
pub reads_none : (state : List ℕ → FileState) (log : Option (List FileEvent))
    → ReadsFiles (files_use state log log) [] []
reads_none state log = record { give = tt; events = logs_none log }

-- one file was opened, read and closed
pub reads_file : (disk : FilesUse) (between : Option (List FileEvent)) (path : List ℕ) (file : SourceUse)
    → MayOpen (disk.state path) file.given → file.was_ended ≡ false
    → Logs disk.old_log between (opened path ∷ []) → Logs between disk.new_log (closing file ∷ [])
    → ReadsFiles disk (path ∷ []) (file ∷ [])
reads_file disk between path file give fresh opens closes =
    record { give = (give, fresh, tt); events = logs_then disk.old_log between disk.new_log _ _ opens closes }

-- two files were opened, read and closed
pub reads_files : (disk : FilesUse) (opens closes : Option (List FileEvent)) (path order_path : List ℕ)
    (file orders : SourceUse)
    → OpensBoth (files_use disk.state disk.old_log opens) path order_path file.given orders.given
    → file.was_ended ≡ false → orders.was_ended ≡ false → Logs opens closes (closing file ∷ [])
    → Logs closes disk.new_log (closing orders ∷ [])
    → ReadsFiles disk (path ∷ order_path ∷ []) (file ∷ orders ∷ [])
reads_files disk opens closes path order_path file orders both fresh fresh_orders p q = record {
  give = (both.give, fresh, (both.give_orders, fresh_orders, tt));
  events = logs_then disk.old_log opens disk.new_log _ _ both.events (logs_then opens closes disk.new_log _ _ p q);
}

-- a stop that reports no failed write
pub gives_stop : (Comes : JobResult → Type 0) (writer : SinkUse) (stop : Stop) (ended : Result Outcome Stop)
    → ended ≡ Err stop → reports_write (Err stop) ≡ false → WritesNothing writer → Comes (stops stop)
    → Delivers Comes WritesResult writer ended
gives_stop Comes writer stop ended e reports nothing comes = record {
  returned = stops stop;
  is_result = comes;
  is_written = (e, nothing.working, nothing.kept);
  write_failed = rw e (nothing.working ∙ sym reports);
}

opening_reports : (fault : OpenFault) → reports_write (Err (open_stop fault)) ≡ false
opening_reports fault = grind arith

module _ (disk : FilesUse) where
  -- the first path of a job could not be opened
  pub stops_first : (path : List ℕ) (rest : List (List ℕ)) (fault : OpenFault) → MayFail (disk.state path) fault
      → Did disk (not_opened path fault ∷ [])
      → StopsAtPath disk (path ∷ rest) (stops (open_stop fault))
  stops_first path rest fault may events = record {
    before = [];
    path = path;
    after = rest;
    given = [];
    fault = fault;
    parts = refl;
    give = tt;
    may_fail = may;
    events = events;
    reported = refl;
  }

  -- one of two paths could not be opened
  pub stops_one : (path order_path : List ℕ) (fault : OpenFault) → OneFails disk path order_path fault
      → StopsAtPath disk (path ∷ order_path ∷ []) (stops (open_stop fault))
  stops_one path order_path fault (inl p) = stops_first path (order_path ∷ []) fault p.may_fail p.events
  stops_one path order_path fault (inr p) = record {
    before = path ∷ [];
    path = order_path;
    after = [];
    given = p.file ∷ [];
    fault = fault;
    parts = refl;
    give = (p.give, refl, tt);
    may_fail = p.may_fail;
    events = p.events;
    reported = refl;
  }

  -- a path of the job could not be opened
  pub gives_closed : (asked : Job) (paths : List (List ℕ)) (input : SourceUse) (old : Option (List ℕ)) (failed : Bool)
      (fault : OpenFault) (ended : Result Outcome Stop) → paths_of asked ≡ paths → IsUnread input → failed ≡ false
      → ended ≡ Err (open_stop fault) → StopsAtPath disk paths (stops (open_stop fault))
      → Delivers (RunsJob asked disk input) WritesResult (sink_use old old failed) ended
  gives_closed asked paths input old failed fault ended are unread working e closed =
      gives_stop _ _ (open_stop fault) ended e (opening_reports fault) (record { working = working; kept = refl })
      (inl (unread, rw are closed))

-- the result of an engine as a `JobResult`
module _ (Output : Outcome → List ℕ → Type 0) (IsFault : DeskFault → Type 0) (writer : SinkUse)
    (Comes : JobResult → Type 0) where
  abbrev Reaches : Result Outcome DeskFault → Type 0
  Reaches result = (returned : JobResult) → IsResultOf Output IsFault returned → layout_fault_in returned
      ≡ layout_fault_of result
      → order_fault_in returned ≡ order_fault_of result → Comes returned

  pub gives_ending : (result : Result Outcome DeskFault) → WritesOutput Output writer result
      → IfErr result IsFault → Reaches result → Delivers Comes WritesResult writer (ending result)
  gives_ending (Ok outcome) w f comes = record {
    returned = prints outcome w.text;
    is_result = comes (prints outcome w.text) w.is_output refl refl;
    is_written = inl (refl, w.bytes);
    write_failed = w.working;
  }
  gives_ending (Err (faults.Write fault)) w f comes = record {
    returned = prints w.outcome w.text;
    is_result = comes (prints w.outcome w.text) w.is_output refl refl;
    is_written = inr (record { fault = fault; reported = refl; front = w.front });
    write_failed = w.front.stopped;
  }
  gives_ending (Err (faults.Layout fault)) w f comes = gives_stop _ _ _ _ refl refl w (comes _ f refl refl)
  gives_ending (Err (faults.Order fault)) w f comes = gives_stop _ _ _ _ refl refl w (comes _ f refl refl)
  gives_ending (Err (faults.TakeRange take jobs)) w f comes = gives_stop _ _ _ _ refl refl w (comes _ f refl refl)
  gives_ending (Err faults.Memory) w f comes = gives_stop _ _ _ _ refl refl w (comes _ f refl refl)

-- a job delivers what its engine delivers on its files, which were opened, read and closed
pub gives_run : (asked : Job) (disk : FilesUse) (input : SourceUse) (paths : List (List ℕ)) (files : List SourceUse)
    (IsWritten : SinkUse → JobResult → Result Outcome Stop → Type 0) (output : SinkUse)
    (reached ended : Result Outcome Stop) → ended ≡ reached → paths_of asked ≡ paths → ReadsFiles disk paths files
    → Delivers (ReturnsFor asked input files) IsWritten output reached
    → Delivers (RunsJob asked disk input) IsWritten output ended
gives_run asked disk input paths files IsWritten output reached ended e are reads gave =
    rw e (record {
      returned = gave.returned;
      is_result = inr (record { files = files; reads = rw are reads; has_result = gave.is_result });
      is_written = gave.is_written;
      write_failed = gave.write_failed;
    })

-- what an engine delivers that reads one input
module _ (Comes : JobResult → Type 0) (layout : Layout) (block : ℕ) (Output : Outcome → List ℕ → Type 0)
    (writer : SinkUse) (result : Result Outcome DeskFault)
    (w : WritesOutput Output writer result) (file : SourceUse)
    (r : ReadsBlock layout block file (layout_fault_of result)) where
  pub gives_on : (IsFault : DeskFault → Type 0) → IfErr result IsFault
      → ((returned : JobResult) → ReturnsOn layout block Output IsFault file returned → Comes returned)
      → Delivers Comes WritesResult writer (ending result)
  gives_on IsFault f has_result = gives_ending Output IsFault writer Comes result w f
      (λ returned is first second. has_result returned (record { is = is; reads = rw first r }))

  -- what an engine delivers that reads an order file after it
  pub gives_on_both : (orders : SourceUse) → IfErr result (IsAuditFault layout file.given block orders.given)
      → ReadsOrder orders (layout_fault_of result) (order_fault_of result)
      → ((returned : JobResult) → ReturnsOnBoth layout block Output file orders returned → Comes returned)
      → Delivers Comes WritesResult writer (ending result)
  gives_on_both orders f reads has_result =
      gives_ending Output (IsAuditFault layout file.given block orders.given) writer Comes result w f
      (λ returned is first second. has_result returned (record {
        first = record { is = is; reads = rw first r };
        reads_order = rw (first, second) reads;
      }))

-- only one result reports a given fault of the instance file
pub reported_by : (fault : LayoutFault) (result : Result Outcome DeskFault) → layout_fault_of result ≡ Some fault
    → result ≡ Err (faults.Layout fault)
reported_by fault result e = grind arith
