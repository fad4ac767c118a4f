use Rattle.std.proofs.Common.{Err, ap, inr, refl, rules}
use Rattle.pfs_desk.proofs.ProgramLemmas.{asks_for, gives_rejection, writes_text}
use Rattle.pfs_desk.proofs.program.run.Goals as goal

pub returns-in_err-job : goal.returns-in_err-job
returns-in_err-job g c =
    gives_rejection _ c.args.words.now _ _ _ _ _ c.in_err-job.field-0.0 _ (search rules) (record {
      kept = refl;
      working = c.requires.reading;
      no_end = refl;
    })
    c.requires.writing (λ fresh. fresh.empty) (λ e. let asked = c.in_err-job.ensures.no_words e in cc)
    (λ word others e is. c.in_err-job.ensures.usage word others e (ap Err is))

pub returns : goal.returns
returns g c =
    let mid = c.run_job-returned.new.writer in
    let gave = c.run_job-returned.ensures in
    let out = c.let_out in
    record {
      returned = gave.returned;
      is_result = inr (record {
        job = c.in_ok-job.job;
        asks = asks_for _ _ _ (λ e. let asked = c.in_ok-job.ensures.no_words e in cc)
            (λ word others e. c.in_ok-job.ensures.job word others e);
        runs = gave.is_result;
      });
      is_written = writes_text g.W.Sink.written c.args.output.now mid out.new.output out.ensures.kept
          (g.W.Sink.has_failed mid.writer) (g.W.Sink.has_failed out.new.output.writer) gave.returned
          c.run_job-returned.result out.result gave.write_failed out.ensures.failed gave.is_written out.ensures.ends;
      write_failed = out.ensures.failed;
    }
