use Rattle.std.proofs.Common.{◌-◌, ◌≤◌, get_or}
use Rattle.pfs_base.specs.FlowShop.{time_of}
use Rattle.pfs_base.proofs.Published.Partly.{Partly}
use Rattle.pfs_exact.proofs.node.leave.Given as goal

abbrev pub invariant-loop-machine : goal.invariant-loop-machine
invariant-loop-machine l = let shop = l.instance.shop in
    Partly (λ machine time. time ≤ get_or l.left machine 0 - time_of shop l.job machine) shop.machines l.machine
    l.fn.next l.next
