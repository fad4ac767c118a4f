use Rattle.std.proofs.Common.{codes, rules}
use Rattle.pfs_base.specs.Text.{number_between}
use Rattle.pfs_base.proofs.Published.SendsLemmas.{then_all, then_front, then_sends, front_of}
use Rattle.pfs_desk.proofs.fault.put_take_fault.Goals as goal

pub returns-in_err-sent-2 : goal.returns-in_err-sent-2
returns-in_err-sent-2 g c =
    let numbered = then_front c.in_ok-sent.ensures c.in_err-sent-2.ensures.text in
    let front = front_of (number_between (codes " exceeds ") c.args.jobs (codes " jobs")) numbered in
    search rules

pub returns : goal.returns
returns g c =
    let numbered = then_all c.in_ok-sent.ensures c.in_ok-sent-2.ensures.text in
    then_sends _ _ _ c.put_between.result numbered c.put_between.ensures.text
