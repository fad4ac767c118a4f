use Rattle.std.proofs.Common.{sym, ◌∙◌}
use Rattle.std.proofs.lemmas.List.{at_drop_more}
use Rattle.std.specs.Prelude.{fold}
use Rattle.pfs_iterate.specs.Iterated.{moved}
use Rattle.pfs_iterate.proofs.Keeping.{work_then}
use Rattle.pfs_iterate.proofs.Rearranging.{rearranged-trans}
use Rattle.pfs_iterate.proofs.improve.pass.Goals as goal

pub loop-job-preserved : goal.loop-job-preserved
loop-job-preserved c =
    let shop = c.args.instance.now.shop in
    let step = moved shop c.args.options.now in
    let jobs = c.loop-job.work.seq.jobs in
    let invariant = c.loop-job.invariant in
    let gives = c.visit-span.ensures in
    record {
      jobs = rw gives.jobs (sym (at_drop_more (fold step jobs) c.args.list.now c.loop-job.job-index 0
          c.loop-job-test.true) ∙ invariant.jobs);
      span = gives.span;
      same = rearranged-trans c.args.options.now.held _ _ _ invariant.same gives.same;
      work = work_then shop _ _ _ invariant.work gives.work;
    }
