use Rattle.std.proofs.Common.{◌≡◌, take, drop, rules, Err}
use Rattle.pfs_c.proofs.Jobs.{jobs_all}
use Rattle.pfs_c.proofs.ManyLemmas.{valid_why}
use Rattle.pfs_c.proofs.parts.validate_row.Goals as goal

pub returns-in_err-validate_jobs : goal.returns-in_err-validate_jobs
returns-in_err-validate_jobs c =
    let run = c.open_run-first in
    let why = c.in_err-validate_jobs.field-0.0 in
    let number : c.from_residual.result ≡ Err why = search rules in
    let found = jobs_all c.args.jobs (take run.result.0 c.args.row.now) (drop run.result.1 c.args.row.now) why
    (valid_why (Unit {0}) why _ c.in_err-validate_jobs.ensures.validated) in
    rw (run.ensures.jobs, found) number
