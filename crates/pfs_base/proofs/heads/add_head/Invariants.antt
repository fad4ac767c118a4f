use Rattle.std.proofs.Common.{◌≡◌, ◌+◌}
use Rattle.pfs_base.specs.Heads.{head_of}
use Rattle.pfs_base.proofs.Published.HeadRows.{head_of_before}
use Rattle.pfs_base.proofs.Published.Partly.{Partly}
use Rattle.pfs_base.proofs.heads.add_head.Given as goal

abbrev pub invariant-loop-machine : goal.invariant-loop-machine
invariant-loop-machine l =
    let shop = l.instance.shop in
    let jobs = l.sequence in
    record {
      heads : Partly (λ machine time. time ≡ head_of shop jobs (l.place + 1) machine) shop.machines l.machine
          l.fn.heads l.heads;
      before : l.before ≡ head_of_before shop jobs (l.place + 1) l.machine;
    }
