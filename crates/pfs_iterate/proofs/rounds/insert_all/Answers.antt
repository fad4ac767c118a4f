use Rattle.std.proofs.Common.{◌≡◌, length, get_or, insert, fold, arith, ap, sym, ◌∙◌}
use Rattle.std.proofs.lemmas.List.{at_drop_more}
use Rattle.std.proofs.lemmas.List.Edits.{length-insert}
use Rattle.pfs_base.specs.Paths.{makespan}
use Rattle.pfs_order.specs.Sequence.{Sequence}
use Rattle.pfs_order.proofs.Published.Sequences.{length-le-size}
use Rattle.pfs_search.proofs.Published.Taking.{next_small, next_absent, next_moved}
use Rattle.pfs_iterate.specs.Iterated.{put}
use Rattle.pfs_iterate.proofs.Fronts.{take-insert}
use Rattle.pfs_iterate.proofs.Keeping.{work_then}
use Rattle.pfs_iterate.proofs.rounds.insert_all.Goals as goal

pub span_of-requires-clause-few : goal.span_of-requires-clause-few
span_of-requires-clause-few c =
    let seq = c.args.work.now.seq in
    omega (
      arith,
      ap length c.as_slice.ensures.value,
      length-le-size seq.size seq.jobs c.as_slice.ensures.sequence,
      c.requires.work.size,
    )

pub put-span-requires-clause-job : goal.put-span-requires-clause-job
put-span-requires-clause-job c =
    next_small c.args.instance.now.shop.jobs c.args.jobs.now c.loop-job.work.seq.jobs c.loop-job.job-index
    c.loop-job-test.true c.loop-job.invariant.together

pub put-span-requires-clause-absent : goal.put-span-requires-clause-absent
put-span-requires-clause-absent c =
    next_absent c.args.instance.now.shop.jobs c.args.jobs.now c.loop-job.work.seq.jobs c.loop-job.job-index
    c.loop-job-test.true c.loop-job.invariant.together

pub loop-job-preserved : goal.loop-job-preserved
loop-job-preserved c =
    let shop = c.args.instance.now.shop in
    let items = c.args.jobs.now in
    let i = c.loop-job.job-index in
    let jobs = c.loop-job.work.seq.jobs in
    let invariant = c.loop-job.invariant in
    let found = c.put-span.ensures in
    let place = c.put-span.result.place in
    let next = get_or items i 0 in
    let new_jobs : c.put-span.new.work.seq.jobs ≡ insert jobs place next = ap (λ (s : Sequence). s.jobs) found.jobs in
    let step : c.put-span.new.work.seq.jobs ≡ put shop c.args.options.now jobs next =
    new_jobs ∙ ap (λ place. insert jobs place next) found.place.place_is in
    record {
      together = rw new_jobs (next_moved shop.jobs items jobs i c.loop-job-test.true invariant.together place);
      jobs = rw step (sym (at_drop_more (fold (put shop c.args.options.now) jobs) items i 0 c.loop-job-test.true)
          ∙ invariant.jobs);
      count = omega (arith, ap length new_jobs, length-insert jobs place next found.place.within, invariant.count);
      front = rw new_jobs (take-insert c.args.options.now.held place next jobs found.place.from found.place.within ∙ invariant.front);
      work = work_then shop _ _ _ invariant.work found.work;
      span = λ _. found.place.spanned ∙ ap (makespan shop) (sym new_jobs);
    }
