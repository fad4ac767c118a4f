use Rattle.std.proofs.Common.{◌≡◌, false, Some, refl, arith, rules}
use Rattle.pfs_c.proofs.Marks.{jobs_distinct, jobs_marked, marked_start}
use Rattle.pfs_c.proofs.given.is_sequence.Goals as goal

pub loop-four-init : goal.loop-four-init
loop-four-init c =
    marked_start c.args.size c.args.jobs.now c.args.marks.now (omega (arith, c.requires.enough)) c.requires.none

pub returns-clause-marked : goal.returns-clause-marked
returns-clause-marked c valid =
    let is : c.mark_some-2.result ≡ Some false = search rules in
    let marked = rw is at c.mark_some-2.ensures.marked in
    let sequence = (jobs_distinct c.args.size c.args.jobs.now c.mark_some-2.new.marks false _ marked (omega arith)).0
    refl in
    jobs_marked c.args.size c.args.jobs.now c.mark_some-2.new.marks false _ marked (omega arith) sequence
