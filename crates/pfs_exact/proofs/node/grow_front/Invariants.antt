use Rattle.std.proofs.Common.{ℕ, List}
use Rattle.pfs_exact.specs.Private.Nodes.{AreStarts}
use Rattle.pfs_base.proofs.Published.Partly.{Partly}
use Rattle.pfs_exact.proofs.MachineBounds.{IsBefore, IsEnd}
use Rattle.pfs_exact.proofs.node.grow_front.Given as goal

abbrev pub invariant-loop-machine : goal.invariant-loop-machine
invariant-loop-machine l =
    let shop = l.instance.shop in
    record {
      before : (front back : List ℕ) → AreStarts shop front back l.starts
          → IsBefore shop front l.job back l.machine l.before;
      starts : Partly (λ machine time. (front back : List ℕ) → AreStarts shop front back l.starts
          → IsEnd shop front l.job back machine time) shop.machines l.machine l.fn.next l.next;
    }
