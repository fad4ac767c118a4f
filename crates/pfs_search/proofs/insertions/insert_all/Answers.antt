use Rattle.std.proofs.Common.{◌≡◌, length, get_or, insert, arith, rules, ap, sym, ◌∙◌}
use Rattle.std.proofs.lemmas.List.{at_drop_more}
use Rattle.std.proofs.lemmas.List.Edits.{length-insert}
use Rattle.pfs_order.specs.Sequence.{Sequence}
use Rattle.pfs_insert.specs.Insertion.{with_job}
use Rattle.pfs_search.specs.Neh.{with_jobs}
use Rattle.pfs_search.proofs.Published.Taking.{next_small, next_absent, next_moved}
use Rattle.pfs_search.proofs.Published.CostSums.{insertions_within, insertions_more}
use Rattle.pfs_search.proofs.insertions.insert_all.Goals as goal

pub best-requires-clause-absent : goal.best-requires-clause-absent
best-requires-clause-absent g c =
    next_absent (g.B.Bench.shop c.args.bench.now).jobs c.args.jobs.now c.loop-job.seq.jobs c.loop-job.job-index
    c.loop-job-test.true c.loop-job.invariant.together

pub best-requires-clause-room : goal.best-requires-clause-room
best-requires-clause-room g c =
    let before = length c.args.seq.now.jobs in
    let fits = insertions_within g.I.Inserter.cost (g.B.Bench.shop c.args.bench.now).machines before
    (length c.args.jobs.now) c.loop-job.job-index c.loop-job-test.true in
    let counted = c.loop-job.invariant.counted in
    let room = c.requires.room in
    rw (c.loop-job.invariant.same_shop, c.loop-job.invariant.count) (omega arith)

pub returns-in-Err-clause-step : goal.returns-in-Err-clause-step
returns-in-Err-clause-step g c =
    let before = length c.args.seq.now.jobs in
    let fits = insertions_within g.I.Inserter.cost (g.B.Bench.shop c.args.bench.now).machines before
    (length c.args.jobs.now) c.loop-job.job-index c.loop-job-test.true in
    let counted = c.loop-job.invariant.counted in
    let low = c.in-Err.ensures.cells.fault_low in
    let high = rw (c.loop-job.invariant.same_shop, c.loop-job.invariant.count) at c.in-Err.ensures.cells.fault_high in
    record {
      cells = record { counted = tt; fault_low = omega arith; fault_high = omega arith };
      succeeds = search rules;
      still = search rules;
    }

pub insert_at-requires-clause-in_range : goal.insert_at-requires-clause-in_range
insert_at-requires-clause-in_range g c =
    let small = next_small (g.B.Bench.shop c.args.bench.now).jobs c.args.jobs.now c.loop-job.seq.jobs
    c.loop-job.job-index c.loop-job-test.true c.loop-job.invariant.together in
    let jobs = rw c.loop-job.invariant.same_shop at c.loop-job.invariant.fits.seq_jobs in
    omega arith

pub insert_at-requires-clause-absent : goal.insert_at-requires-clause-absent
insert_at-requires-clause-absent g c =
    next_absent (g.B.Bench.shop c.args.bench.now).jobs c.args.jobs.now c.loop-job.seq.jobs c.loop-job.job-index
    c.loop-job-test.true c.loop-job.invariant.together

pub loop-job-preserved : goal.loop-job-preserved
loop-job-preserved g c =
    let shop = g.B.Bench.shop c.args.bench.now in
    let items = c.args.jobs.now in
    let i = c.loop-job.job-index in
    let jobs = c.loop-job.seq.jobs in
    let invariant = c.loop-job.invariant in
    let place = c.in-Ok.best.place in
    let found = c.in-Ok.ensures.best in
    let next = get_or items i 0 in
    let new_jobs : c.insert_at.new.self.jobs ≡ insert jobs place next =
    ap (λ (s : Sequence). s.jobs) c.insert_at.ensures in
    let longer = length-insert jobs place next found.within in
    let more = insertions_more g.I.Inserter.cost shop.machines (length c.args.seq.now.jobs) i in
    let counted = rw (invariant.same_shop, invariant.count) at c.in-Ok.ensures.cells.counted in
    let best : insert jobs place next ≡ with_job shop jobs next =
    rw (← invariant.same_shop) (ap (λ p. insert jobs p next) found.place_is) in
    record {
      same_shop = c.in-Ok.ensures.shop ∙ invariant.same_shop;
      fits = rw (ap (λ (s : Sequence). s.size) c.insert_at.ensures) c.in-Ok.ensures.still_fits;
      counted = omega (arith, invariant.counted);
      together = rw new_jobs (next_moved shop.jobs items jobs i c.loop-job-test.true invariant.together place);
      count = omega (arith, ap length new_jobs, invariant.count);
      order = rw (new_jobs, best)
          (sym (at_drop_more (with_jobs shop jobs) items i 0 c.loop-job-test.true) ∙ invariant.order);
      span = λ _. rw (new_jobs, ← invariant.same_shop) found.span_is;
    }
