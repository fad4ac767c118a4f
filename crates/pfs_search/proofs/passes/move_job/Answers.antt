use Rattle.std.proofs.Common.{◌≡◌, ◌+◌, length, insert, ap, sym, ◌∙◌, arith, rules}
use Rattle.std.proofs.lemmas.List.Edits.{length-insert, length-remove}
use Rattle.pfs_order.specs.Sequence.{Sequence}
use Rattle.pfs_order.proofs.Published.Sequences.{Contains-all, absent-remove}
use Rattle.pfs_insert.specs.Insertion.{with_job}
use Rattle.pfs_search.proofs.Published.Moves.{moved_is}
use Rattle.pfs_search.proofs.passes.move_job.Goals as goal

pub place_of-place-requires : goal.place_of-place-requires
place_of-place-requires g c =
    Contains-all c.args.seq.now.size c.args.job c.args.seq.now.jobs c.size-size.ensures.sequence
    (c.requires.ready.full ∙ sym c.requires.ready.fits.seq_jobs)
    (omega (arith, c.requires.ready.fits.seq_jobs, c.requires.ready.job_is))

pub best-requires-clause-absent : goal.best-requires-clause-absent
best-requires-clause-absent g c =
    rw (ap (λ (s : Sequence). s.jobs) c.remove_at.ensures.rest) (absent-remove c.args.seq.now.size _ c.args.job _
    c.size-size.ensures.sequence c.place_of-place.ensures.within (sym c.place_of-place.ensures.job))

pub insert_at-requires-clause-absent : goal.insert_at-requires-clause-absent
insert_at-requires-clause-absent g c =
    rw (ap (λ (s : Sequence). s.jobs) c.remove_at.ensures.rest) (absent-remove c.args.seq.now.size _ c.args.job _
    c.size-size.ensures.sequence c.place_of-place.ensures.within (sym c.place_of-place.ensures.job))

pub returns-clause-made : goal.returns-clause-made
returns-clause-made g c =
    let shop = g.B.Bench.shop c.args.bench.now in
    let job = c.args.job in
    let found = c.place_of-place.ensures in
    let left = c.remove_at.new.self.jobs in
    let fewer = ap (λ (s : Sequence). length s.jobs) c.remove_at.ensures.rest in
    let gone = length-remove c.args.seq.now.jobs c.place_of-place.result c.place_of-place.ensures.within in
    let more = ap (λ (s : Sequence). length s.jobs) c.insert_at.ensures in
    let back = length-insert left c.in_ok-best.best.place c.args.job c.in_ok-best.ensures.best.within in
    record {
      jobs_are = ap (λ (s : Sequence). s.jobs) c.insert_at.ensures
          ∙ ap (λ place. insert c.remove_at.new.self.jobs place job) c.in_ok-best.ensures.best.place_is
          ∙ ap (λ (s : Sequence). with_job shop s.jobs job) c.remove_at.ensures.rest
          ∙ sym (moved_is shop c.args.seq.now.size c.place_of-place.result job c.args.seq.now.jobs
          c.size-size.ensures.sequence found.within (sym found.job));
      has_span = record { count_is = omega (arith, c.requires.ready.full); span_is = search rules };
    }

pub returns-clause-step : goal.returns-clause-step
returns-clause-step g c =
    let shop = g.B.Bench.shop c.args.bench.now in
    let fewer = ap (λ (s : Sequence). length s.jobs) c.remove_at.ensures.rest in
    let gone = length-remove c.args.seq.now.jobs c.place_of-place.result c.place_of-place.ensures.within in
    let all : length c.remove_at.new.self.jobs + 1 ≡ shop.jobs = omega (arith, c.requires.ready.full) in
    record {
      cells = record { counted = rw all at c.in_ok-best.ensures.cells.counted; fault_low = tt; fault_high = tt };
      succeeds = search rules;
      still = search rules;
    }
