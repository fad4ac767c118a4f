use Rattle.std.proofs.Common.{rules}
use Rattle.pfs_base.proofs.Published.SendsLemmas.{then_sends}
use Rattle.pfs_desk.proofs.OutputLemmas.{valid_optimal, valid_alone, valid_front}
use Rattle.pfs_desk.proofs.engines.check.put_valid.Goals as goal

pub returns-in_err-sent : goal.returns-in_err-sent
returns-in_err-sent g c =
    let front = valid_front c.args.makespan c.args.bound c.in_err-sent.ensures.text in
    search rules

pub returns-then-makespan-bound : goal.returns-then-makespan-bound
returns-then-makespan-bound g c =
    rw (valid_optimal c.args.makespan c.args.bound c.if-makespan-bound.true)
    (then_sends _ _ _ c.put_line.result c.in_ok-sent.ensures.text c.put_line.ensures.text)

pub returns-else-makespan-bound : goal.returns-else-makespan-bound
returns-else-makespan-bound g c =
    rw (valid_alone c.args.makespan c.args.bound c.if-makespan-bound.false) c.in_ok-sent.ensures.text
