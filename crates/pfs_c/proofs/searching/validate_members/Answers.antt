use Rattle.std.proofs.Common.{Contains, refl, rules}
use Rattle.std.proofs.lemmas.List.{take_all}
use Rattle.std.proofs.lemmas.List.Elements.{All-more}
use Rattle.pfs_c.proofs.Building.{members_all}
use Rattle.pfs_c.proofs.searching.validate_members.Goals as goal

pub returns-clause-validated : goal.returns-clause-validated
returns-clause-validated c =
    let among = rw (take_all _ c.args.list.now c.loop-job-test.false) at c.loop-job.invariant in
    let all = members_all c.args.sequence.now c.args.list.now among in
    rw all refl

pub returns-clause-members : goal.returns-clause-members
returns-clause-members c = rw (take_all _ c.args.list.now c.loop-job-test.false) at c.loop-job.invariant

pub loop-job-preserved : goal.loop-job-preserved
loop-job-preserved c = All-more (λ job. Contains c.args.sequence.now job) c.args.list.now c.loop-job.job-index 0
    c.loop-job-test.true c.loop-job.invariant (search rules)
