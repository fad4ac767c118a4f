use Rattle.std.proofs.Common.{◌-◌, ◌≤◌, get_or, arith}
use Rattle.pfs_base.specs.FlowShop.{time_of}
use Rattle.pfs_base.proofs.Published.Partly.{partly_none, partly_more}
use Rattle.pfs_exact.proofs.node.leave.Goals as goal

pub loop-machine-init : goal.loop-machine-init
loop-machine-init c = partly_none _ _ _ (omega arith)

pub loop-machine-preserved : goal.loop-machine-preserved
loop-machine-preserved c =
    let shop = c.args.instance.now.shop in
    let machine = c.loop-machine.machine in
    partly_more (λ m time. time ≤ get_or c.args.left.now m 0 - time_of shop c.args.job m) shop.machines machine _
    c.args.next.now c.loop-machine.next (omega arith) c.loop-machine.invariant (omega arith)

pub returns-clause-left : goal.returns-clause-left
returns-clause-left c = λ machine small. c.loop-machine.invariant.done machine (omega arith)
