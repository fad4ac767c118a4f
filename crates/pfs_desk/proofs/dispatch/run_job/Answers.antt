use Rattle.std.proofs.Common.{[], ◌∙◌, ap, refl, sym, rules}
use Rattle.pfs_words.specs.declared.job.Job.TheVariants.{Value}
use Rattle.pfs_desk.specs.Engine.{layout_fault_of}
use Rattle.pfs_desk.specs.Program.{paths_of}
use Rattle.pfs_desk.proofs.RunLemmas.{gives_closed, gives_ending, gives_on, gives_on_both, gives_run}
use Rattle.pfs_desk.proofs.RunLemmas.{reads_file, reads_files, reads_none, reported_by, stops_first, stops_one}
use Rattle.pfs_desk.proofs.dispatch.run_job.Goals as goal

-- ---- a path that can't be opened

pub returns-in_err-file-in-Some : goal.returns-in_err-file-in-Some
returns-in_err-file-in-Some g c =
    let fails = c.in_err-file-in-Some.ensures in
    gives_closed _ _ _ _ _ _ c.in_err-file-in-Some.field-0.0 _ (ap paths_of (c.in-Value.is ∙ ap (Value c.in-Value.layout c.in-Value.block) c.in-Some.is))
    (record { kept = refl; working = c.requires.reading; no_end = refl }) c.requires.writing (search rules) (stops_first _ _ [] _ fails.fails fails.log)

pub returns-in_err-file-in-Solve : goal.returns-in_err-file-in-Solve
returns-in_err-file-in-Solve g c =
    let fails = c.in_err-file-in-Solve.ensures in
    gives_closed _ _ _ _ _ _ c.in_err-file-in-Solve.field-0.0 _ (ap paths_of c.in-Solve.is)
    (record { kept = refl; working = c.requires.reading; no_end = refl }) c.requires.writing (search rules) (stops_first _ _ [] _ fails.fails fails.log)

pub returns-in_err-file-in-Convert : goal.returns-in_err-file-in-Convert
returns-in_err-file-in-Convert g c =
    let fails = c.in_err-file-in-Convert.ensures in
    gives_closed _ _ _ _ _ _ c.in_err-file-in-Convert.field-0.0 _ (ap paths_of c.in-Convert.is)
    (record { kept = refl; working = c.requires.reading; no_end = refl }) c.requires.writing (search rules) (stops_first _ _ [] _ fails.fails fails.log)

pub returns-in_err-file-in-Check : goal.returns-in_err-file-in-Check
returns-in_err-file-in-Check g c =
    gives_closed _ _ _ _ _ _ c.in_err-file-in-Check.field-0.0 _ (ap paths_of c.in-Check.is)
    (record { kept = refl; working = c.requires.reading; no_end = refl }) c.requires.writing (search rules)
    (stops_one _ _ _ _ c.in_err-file-in-Check.ensures.fails)

pub returns-in_err-file-in-Table : goal.returns-in_err-file-in-Table
returns-in_err-file-in-Table g c =
    gives_closed _ _ _ _ _ _ c.in_err-file-in-Table.field-0.0 _ (ap paths_of c.in-Table.is)
    (record { kept = refl; working = c.requires.reading; no_end = refl }) c.requires.writing (search rules)
    (stops_one _ _ _ _ c.in_err-file-in-Table.ensures.fails)

-- ---- an engine that has run

pub returns-in-None : goal.returns-in-None
returns-in-None g c =
    let run = c.run_value in
    let is = c.in-Value.is ∙ ap (Value c.in-Value.layout c.in-Value.block) c.in-None.is in
    gives_run c.args.job.now _ _ [] [] _ _ _ _ c.ending.ensures (ap paths_of is) (reads_none _ _)
    (gives_on _ _ _ _ _ run.result run.ensures.written _ run.ensures.reads _ run.ensures.fault
    (λ returned has_result. rw is has_result))

pub returns-in_ok-file-in-Some : goal.returns-in_ok-file-in-Some
returns-in_ok-file-in-Some g c =
    let run = c.run_value-returned in
    let opens = c.in_ok-file-in-Some.ensures in
    let is = (c.in-Value.is ∙ ap (Value c.in-Value.layout c.in-Value.block) c.in-Some.is) in
    gives_run c.args.job.now _ _ _ _ _ _ _ _ c.ending-in-Some.ensures (ap paths_of is)
    (reads_file _ _ _ _ opens.given opens.fresh opens.log c.close.ensures.log)
    (gives_on _ _ _ _ _ run.result run.ensures.written _ run.ensures.reads _ run.ensures.fault
    (λ returned has_result. rw is (record { kept = refl; working = c.requires.reading; no_end = refl }, has_result)))

pub returns-in_ok-file-in-Solve : goal.returns-in_ok-file-in-Solve
returns-in_ok-file-in-Solve g c =
    let run = c.run_solve-returned in
    let opens = c.in_ok-file-in-Solve.ensures in
    let is = c.in-Solve.is in
    gives_run c.args.job.now _ _ _ _ _ _ _ _ c.ending-in-Solve.ensures (ap paths_of is)
    (reads_file _ _ _ _ opens.given opens.fresh opens.log c.close-in-Solve.ensures.log)
    (gives_on _ _ _ _ _ run.result run.ensures.written _ run.ensures.reads _ run.ensures.fault
    (λ returned has_result. rw is (record { kept = refl; working = c.requires.reading; no_end = refl }, has_result)))

pub returns-in_ok-file-in-Convert : goal.returns-in_ok-file-in-Convert
returns-in_ok-file-in-Convert g c =
    let run = c.run_convert-returned in
    let opens = c.in_ok-file-in-Convert.ensures in
    let is = c.in-Convert.is in
    gives_run c.args.job.now _ _ _ _ _ _ _ _ c.ending-in-Convert.ensures (ap paths_of is)
    (reads_file _ _ _ _ opens.given opens.fresh opens.log c.close-in-Convert.ensures.log)
    (gives_on _ _ _ _ _ run.result run.ensures.written _ run.ensures.reads _ run.ensures.fault
    (λ returned has_result. rw is (record { kept = refl; working = c.requires.reading; no_end = refl }, has_result)))

pub returns-in_ok-file-in-Check : goal.returns-in_ok-file-in-Check
returns-in_ok-file-in-Check g c =
    let run = c.run_check-returned in
    let opens = c.in_ok-file-in-Check.ensures in
    gives_run c.args.job.now _ _ _ _ _ _ _ _ c.ending-in-Check.ensures (ap paths_of c.in-Check.is)
    (reads_files _ _ _ _ _ _ _ opens.both opens.fresh opens.fresh_orders c.close-in-Check.ensures.log
    c.close-in-Check-2.ensures.log)
    (gives_on_both _ _ _ _ _ run.result run.ensures.written _ run.ensures.reads _ run.ensures.fault
    run.ensures.reads_order (λ returned has_result. rw c.in-Check.is (record { kept = refl; working = c.requires.reading; no_end = refl }, has_result)))

pub returns-in_ok-file-in-Table : goal.returns-in_ok-file-in-Table
returns-in_ok-file-in-Table g c =
    let run = c.run_table-returned in
    let opens = c.in_ok-file-in-Table.ensures in
    gives_run c.args.job.now _ _ _ _ _ _ _ _ c.ending-in-Table.ensures (ap paths_of c.in-Table.is)
    (reads_files _ _ _ _ _ _ _ opens.both opens.fresh opens.fresh_orders c.close-in-Table.ensures.log
    c.close-in-Table-2.ensures.log)
    (gives_on_both _ _ _ _ _ run.result run.ensures.written _ run.ensures.reads _ run.ensures.fault
    run.ensures.reads_order (λ returned has_result. rw c.in-Table.is (record { kept = refl; working = c.requires.reading; no_end = refl }, has_result)))

pub returns-in-Generate : goal.returns-in-Generate
returns-in-Generate g c =
    let run = c.run_generate in
    let is = c.in-Generate.is in
    gives_run c.args.job.now _ _ [] [] _ _ _ _ c.ending-in-Generate.ensures (ap paths_of is) (reads_none _ _)
    (gives_ending _ _ _ _ run.result run.ensures.written run.ensures.faults (λ returned is_result first second. rw is (
      (record { kept = refl; working = c.requires.reading; no_end = refl }),
      is_result,
      (
        (λ e. run.ensures.seed_range.0 (reported_by _ run.result (sym first ∙ e))),
        (λ below. first ∙ ap layout_fault_of (run.ensures.seed_range.1 below)),
      ),
    )))
