use Rattle.std.proofs.Common.{◌≡◌, ap, sym, ◌∙◌, arith, length, insert, remove, subst}
use Rattle.std.specs.Prelude.{◌<◌}
use Rattle.std.proofs.lemmas.List.Edits.{length-remove}
use Rattle.pfs_order.specs.Sequence.{Sequence}
use Rattle.pfs_order.proofs.Published.Sequences.{absent-remove, others_are}
use Rattle.pfs_iterate.specs.Private.Steps.{IsRearranged}
use Rattle.pfs_iterate.proofs.Rearranging.{rearranged-moved}
use Rattle.pfs_iterate.proofs.improve.visit.Goals as goal

pub put-requires-clause-absent : goal.put-requires-clause-absent
put-requires-clause-absent c =
    let at = rw c.as_slice.ensures.value at c.in-Some.ensures in
    rw (ap (λ (s : Sequence). s.jobs) c.remove_at-job.ensures.rest) (absent-remove c.args.work.now.seq.size c.in-Some.place
    c.remove_at-job.result c.args.work.now.seq.jobs c.size-size.ensures.sequence at.1 c.remove_at-job.ensures.job)

pub returns-in-Some-clause-jobs : goal.returns-in-Some-clause-jobs
returns-in-Some-clause-jobs c =
    let shop = c.args.instance.now.shop in
    let jobs = c.args.work.now.seq.jobs in
    let held = c.args.options.now.held in
    let place = c.in-Some.place in
    let job = c.args.job in
    let at = rw c.as_slice.ensures.value at c.in-Some.ensures in
    let taken : c.remove_at-job.result ≡ job = c.remove_at-job.ensures.job ∙ at.2 in
    let left : c.remove_at-job.new.self.jobs ≡ remove jobs place =
    ap (λ (s : Sequence). s.jobs) c.remove_at-job.ensures.rest in
    rw (at.3, others_are c.args.work.now.seq.size place job jobs c.size-size.ensures.sequence at.1 (sym at.2))
    (ap (λ (s : Sequence). s.jobs) c.put.ensures.jobs
    ∙ ap (λ to. insert c.remove_at-job.new.self.jobs to c.remove_at-job.result) c.put.ensures.place.place_is
    ∙ rw (taken, left))

pub returns-in-Some-clause-same : goal.returns-in-Some-clause-same
returns-in-Some-clause-same c =
    let seq = c.args.work.now.seq in
    let place = c.in-Some.place in
    let job = c.remove_at-job.result in
    let at = rw c.as_slice.ensures.value at c.in-Some.ensures in
    let gone = length-remove seq.jobs place at.1 in
    let fewer = ap (λ (s : Sequence). length s.jobs) c.remove_at-job.ensures.rest in
    let within : c.put.result.place < length seq.jobs = omega (arith, c.put.ensures.place.within) in
    let moved = rearranged-moved c.args.options.now.held place c.put.result.place job seq at.0 at.1 c.put.ensures.place.from within
    c.remove_at-job.ensures.job in
    subst (λ (s : Sequence). IsRearranged c.args.options.now.held seq s)
    (sym (c.put.ensures.jobs ∙ ap (λ (s : Sequence). record s { jobs = insert s.jobs c.put.result.place job })
    c.remove_at-job.ensures.rest)) moved
