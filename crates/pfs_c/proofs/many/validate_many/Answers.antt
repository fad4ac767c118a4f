use Rattle.std.proofs.Common.{◌≡◌, refl, arith, rules, Err}
use Rattle.pfs_batch.specs.SequenceLists.{sequence_at}
use Rattle.pfs_c.specs.Validation.{jobs_fault}
use Rattle.pfs_c.proofs.Jobs.{jobs_right, none_below}
use Rattle.pfs_c.proofs.ManyLemmas.{one_wrong}
use Rattle.pfs_c.proofs.Returning.{passed}
use Rattle.pfs_c.proofs.many.validate_many.Goals as goal

pub returns-in_err-validate_jobs-clause-validated : goal.returns-in_err-validate_jobs-clause-validated
returns-in_err-validate_jobs-clause-validated c =
    let why = c.in_err-validate_jobs.field-0.0 in
    let number : c.from_residual-in_err-validate_jobs.result ≡ Err why = search rules in
    let found = one_wrong c.args.jobs c.args.count c.args.long c.args.sequences.now (Unit {0}) c.loop-index.index why
    c.loop-index-test.true c.loop-index.invariant c.in_err-validate_jobs.ensures.validated in
    let room = passed _ _ _ c.in_ok-validate_product.ensures.validated in
    rw (room, found) number

pub returns-clause-validated : goal.returns-clause-validated
returns-clause-validated c =
    let right = none_below (λ index. jobs_fault c.args.jobs (sequence_at c.args.long c.args.sequences.now index))
    c.args.count (λ k lt. c.loop-index.invariant k (omega (arith, lt, c.loop-index-test.false))) in
    let room = passed _ _ _ c.in_ok-validate_product.ensures.validated in
    rw (room, right) refl

pub returns-clause-each : goal.returns-clause-each
returns-clause-each c = λ index lt.
    (jobs_right c.args.jobs (sequence_at c.args.long c.args.sequences.now index)).0
    (c.loop-index.invariant index (omega (arith, lt, c.loop-index-test.false)))
