use Rattle.std.proofs.Common.{refl}
use Rattle.pfs_c.proofs.Building.{search_is}
use Rattle.pfs_c.proofs.searching.local_search_in.Goals as goal

pub returns-clause-done : goal.returns-clause-done
returns-clause-done c =
    rw c.visit.ensures.span (search_is c.args.kept.now c.args.sequence.now c.args.list.now c.args.passes c.visit.new.order
    (rw c.jobs-jobs.ensures.value at (c.in_ok-validate_jobs.ensures.sequence.0 refl))
    c.in_ok-validate_members.ensures.members c.visit.ensures.order)
