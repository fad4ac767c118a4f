-- What the results of `solve` say of a file whose bytes are known.
use Rattle.std.proofs.Common.{◌≡◌, ◌≢◌, ℕ, ◌<◌, ◌≤◌, Bool, true, List, Option, Some, None, Result, Ok, Err}
use Rattle.std.proofs.Common.{IfSome, IfErr, refl, sym, ap, ◌∙◌, ⊎_elim, arith}
use Rattle.pfs_base.specs.Limits.{limits}
use Rattle.pfs_base.specs.Problem.{Problem}
use Rattle.pfs_layout.specs.declared.fault.LayoutFault.{LayoutFault}
use Rattle.pfs_layout.specs.declared.fault.LayoutFault.TheVariants as layout_faults
use Rattle.pfs_layout.specs.declared.layout.Layout.{Layout}
use Rattle.pfs_layout.specs.File.{IsInstanceFile}
use Rattle.pfs_layout.specs.Rejection.{RejectsInstance}
use Rattle.pfs_layout.proofs.Published.LawLemmas.{one_verdict}
use Rattle.pfs_layout.proofs.Published.PlaceLemmas.{one_fault}
use Rattle.pfs_desk.specs.declared.fault.DeskFault.{DeskFault}
use Rattle.pfs_desk.specs.declared.fault.DeskFault.TheVariants as faults
use Rattle.pfs_desk.specs.declared.fault.Outcome.{Outcome}
use Rattle.pfs_words.specs.declared.solve_options.SolveOptions.{SolveOptions}
use Rattle.pfs_desk.specs.Engine.{IsSolveFault, SolveOutput, WritesOutput, WritesNothing, layout_fault_of}
use Rattle.pfs_desk.specs.Headline.{PrintsSolution, ReadsOn, RunsOn, Solves}
use Rattle.pfs_desk.specs.Solve.{take_for}
use Rattle.pfs_desk.specs.Uses.{SinkUse}

abbrev rejecting : LayoutFault → Result Outcome DeskFault
rejecting fault = Err (faults.Layout fault)

-- a block of a file contains only one problem
pub one_problem : (layout : Layout) (file : List ℕ) (block : ℕ) → 1 ≤ block → (problem other : Problem)
    → IsInstanceFile limits layout file block problem → IsInstanceFile limits layout file block other
    → problem ≡ other
one_problem layout file block some problem other holds holds_other = ⊎_elim
    (λ accepted. accepted.0.no_other problem holds ∙ sym (accepted.0.no_other other holds_other))
    (λ rejected. absurd (rejected.1 problem holds)) (one_verdict layout file block some)

module _ (layout : Layout) (file : List ℕ) (block : ℕ) (some : 1 ≤ block) (options : SolveOptions)
    (reader_failed : Bool) (writer : SinkUse) where
  abbrev Is : Problem → Type 0
  Is problem = IsInstanceFile limits layout file block problem

  abbrev IsResult : Result Outcome DeskFault → Type 0
  IsResult result = Solves layout file block options reader_failed writer result

  -- a block that contains a problem is not rejected
  not_both : (problem : Problem) (fault : LayoutFault) → Is problem → RejectsInstance layout file block fault → ⊥
  not_both problem fault holds rejects = ⊎_elim (λ accepted. accepted.1 fault rejects)
      (λ rejected. rejected.1 problem holds) (one_verdict layout file block some)

  -- the stated destruction size is not above the number of jobs if it is at most that number
  too_many_taken : (problem other : Problem) (asked : ℕ) → Is problem → Is other
      → take_for options.take other.shop.jobs ≤ other.shop.jobs → options.take ≡ Some asked
      → problem.shop.jobs < asked → ⊥
  too_many_taken problem other asked holds holds_other few is above =
      let same = ap (λ (p : Problem). p.shop.jobs) (one_problem layout file block some problem other holds holds_other) in
      let taken : asked ≤ other.shop.jobs = rw is at few in
      omega arith

  -- the block contains a problem with at least as many jobs as the destruction size
  held : {result : Result Outcome DeskFault} (problem : Problem) → Is problem
      → take_for options.take problem.shop.jobs ≤ problem.shop.jobs
      → (RunsOn reader_failed writer.failed result → PrintsSolution problem options writer result) → IsResult result
  held {result} problem holds within prints = record {
    accepted = λ other holds_other few runs. rw (← one_problem layout file block some problem other holds holds_other) (prints runs);
    rejected = λ fault rejects reads. absurd (not_both problem fault holds rejects);
    too_many = λ other asked holds_other is above reads.
        absurd (too_many_taken other problem asked holds_other holds within is above);
  }

  -- the file is rejected
  rejected_file : (fault : LayoutFault) → WritesNothing writer
      → (fault ≢ layout_faults.Read → fault ≢ layout_faults.Memory → RejectsInstance layout file block fault)
      → (Some fault ≡ Some layout_faults.Read → reader_failed ≡ true) → IsResult (rejecting fault)
  rejected_file fault nothing rejects failed =
      let reported : ReadsOn reader_failed (rejecting fault) → RejectsInstance layout file block fault =
      λ reads. rejects (λ e. cc (failed (ap Some e), reads.reading)) (λ e. reads.room (ap rejecting e)) in
      record {
        accepted = λ problem holds few runs. absurd (not_both problem fault holds (reported runs.reads));
        rejected = λ other rejects_other reads. record {
          reported = ap rejecting (one_fault layout file block fault other (reported reads) rejects_other);
          kept = nothing.kept;
        };
        too_many = λ problem asked holds is above reads. absurd (not_both problem fault holds (reported reads));
      }

  has_result : (result : Result Outcome DeskFault)
      → WritesOutput (SolveOutput layout (Some file) block options) writer result
      → IfErr result (IsSolveFault layout (Some file) block options.take)
      → (layout_fault_of result ≡ Some layout_faults.Read → reader_failed ≡ true) → IsResult result
  has_result (Ok outcome) writes fault read =
      let output = writes.is_output in
      let solution = output.solution in
      let few = solution.few_taken in
      held output.problem output.holds (rw solution.taken at few)
      (λ runs. record { done = ap Ok output.done; text = writes.text; solution = solution; bytes = writes.bytes })
  has_result (Err (faults.Layout fault)) nothing first read = rejected_file fault nothing first.1 read
  has_result (Err (faults.Order fault)) nothing rejected read = absurd rejected
  has_result (Err (faults.TakeRange taken jobs)) nothing rejected read = record {
    accepted = λ problem holds few runs.
        absurd (too_many_taken rejected.problem problem taken rejected.holds holds few rejected.above.0
        rejected.above.1);
    rejected = λ reported rejects reads. absurd (not_both rejected.problem reported rejected.holds rejects);
    too_many = λ problem asked holds is above reads. record {
      reported = cc (one_problem layout file block some rejected.problem problem rejected.holds holds, rejected.above.0, rejected.above.2);
      kept = nothing.kept;
    };
  }
  has_result (Err (faults.Write fault)) front rejected read =
      let solution = front.is_output.solution in
      let few = solution.few_taken in
      held front.is_output.problem front.is_output.holds (rw solution.taken at few)
      (λ runs. cc (front.front.stopped, runs.writing))
  has_result (Err faults.Memory) writes allowed read =
      held allowed.problem allowed.holds allowed.within (λ runs. absurd (runs.room refl))

-- `Solves` follows from what the engine does: it writes its output or nothing, and validates the file and then the
-- destruction size
pub solves : (file : Option (List ℕ)) (layout : Layout) (block : ℕ) (options : SolveOptions)
    (reader_failed : Bool) (writer : SinkUse) (result : Result Outcome DeskFault)
    → 1 ≤ block → WritesOutput (SolveOutput layout file block options) writer result
    → IfErr result (IsSolveFault layout file block options.take)
    → (layout_fault_of result ≡ Some layout_faults.Read → reader_failed ≡ true)
    → IfSome file (λ bytes. Solves layout bytes block options reader_failed writer result)
solves None layout block options reader_failed writer result some writes fault read = tt
solves (Some file) layout block options reader_failed writer result some writes fault read =
    has_result layout file block some options reader_failed writer result writes fault read
