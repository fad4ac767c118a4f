use Rattle.pfs_order.proofs.Published.Sequences.{IsSequence-nil}
use Rattle.pfs_c.proofs.Jobs.{joined}
use Rattle.pfs_c.specs.Building.{in_front}
use Rattle.pfs_c.proofs.ties.construct_by.Goals as goal

pub build-requires-clause-together : goal.build-requires-clause-together
build-requires-clause-together c =
    joined c.args.kept.now.jobs (in_front c.args.more.now c.args.order.now) c.args.more.now
    (rw c.jobs-jobs.ensures.value at c.in_ok-validate_more.ensures.together)

pub build-requires-clause-list : goal.build-requires-clause-list
build-requires-clause-list c = IsSequence-nil c.args.kept.now.jobs
