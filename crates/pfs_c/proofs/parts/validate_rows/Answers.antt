use Rattle.std.proofs.Common.{◌≡◌, refl, ap, sym, ◌∙◌, arith, rules, Err, List, ℕ}
use Rattle.pfs_batch.specs.SequenceLists.{sequence_at}
use Rattle.pfs_c.specs.Parts.{jobs_of}
use Rattle.pfs_c.specs.Validation.{jobs_fault}
use Rattle.pfs_c.proofs.Jobs.{first_below, jobs_right, none_below}
use Rattle.pfs_c.proofs.ManyLemmas.{same_slice, valid_why}
use Rattle.pfs_c.proofs.parts.validate_rows.Goals as goal

pub returns-in_err-validate_row-clause-validated : goal.returns-in_err-validate_row-clause-validated
returns-in_err-validate_row-clause-validated c =
    let jobs = c.args.jobs in
    let rows = c.args.rows.now in
    let index = c.loop-index.index in
    let why = c.in_err-validate_row.field-0.0 in
    let number : c.from_residual.result ≡ Err why = search rules in
    let found = first_below (λ k. jobs_fault jobs (jobs_of (sequence_at jobs rows k))) c.args.count index why
    c.loop-index-test.true c.loop-index.invariant
    (ap (λ (l : List ℕ). jobs_fault jobs (jobs_of l)) (sym (same_slice jobs rows index))
    ∙ valid_why (Unit {0}) why _ c.in_err-validate_row.ensures) in
    rw found number

pub returns-clause-validated : goal.returns-clause-validated
returns-clause-validated c =
    let right = none_below (λ k. jobs_fault c.args.jobs (jobs_of (sequence_at c.args.jobs c.args.rows.now k))) c.args.count
    (λ k lt. c.loop-index.invariant k (omega (arith, lt, c.loop-index-test.false))) in
    rw right refl

pub returns-clause-each : goal.returns-clause-each
returns-clause-each c = λ index lt. (jobs_right c.args.jobs (jobs_of (sequence_at c.args.jobs c.args.rows.now index))).0
    (c.loop-index.invariant index (omega (arith, lt, c.loop-index-test.false)))
