use Rattle.std.proofs.Common.{ℕ, List, [], ◌∷◌, ◌++◌}
use Rattle.pfs_exact.specs.Private.Nodes.{AreLeast, IsNode, NoneShorter}
use Rattle.pfs_exact.proofs.MachineBounds.{IsBefore, IsReady}
use Rattle.pfs_exact.proofs.children.bound_ahead.Given as goal

abbrev pub invariant-loop-machine : goal.invariant-loop-machine
invariant-loop-machine l =
    let shop = l.instance.shop in
    (front back : List ℕ) → IsNode shop front back l.node → AreLeast shop front back l.least → record {
      before : IsBefore shop front l.job back l.machine l.before;
      next : IsReady shop (front ++ l.job ∷ []) back l.machine l.next;
      most : NoneShorter shop (front ++ l.job ∷ []) back l.most;
    }
