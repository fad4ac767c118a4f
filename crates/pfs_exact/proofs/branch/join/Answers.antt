use Rattle.std.proofs.Common.{◌++◌, take, Contains, subst, arith}
use Rattle.pfs_exact.proofs.GrownEnds.{later_absent}
use Rattle.pfs_exact.proofs.branch.join.Goals as goal

pub insert_at-requires-clause-absent : goal.insert_at-requires-clause-absent
insert_at-requires-clause-absent c = λ among.
    let front = c.args.ends.now.front.jobs in
    let back = c.args.ends.now.back.jobs in
    let place = c.loop-place.place in
    later_absent c.args.ends.now.front.size front back place (omega arith) c.requires.ends.sequence
    (subst (λ job. Contains (front ++ take place back) job) c.at.ensures.value
    (subst (λ l. Contains l c.at.result) c.loop-place.invariant.jobs among))
