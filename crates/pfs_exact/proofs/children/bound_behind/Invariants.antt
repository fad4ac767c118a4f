use Rattle.std.proofs.Common.{ℕ, ◌-◌, ◌<◌, List, ◌∷◌}
use Rattle.pfs_exact.specs.Private.Nodes.{AreLeast, IsNode, NoneShorter}
use Rattle.pfs_exact.proofs.MachineBounds.{IsAfter, IsTail}
use Rattle.pfs_exact.proofs.children.bound_behind.Given as goal

abbrev pub invariant-loop-turn : goal.invariant-loop-turn
invariant-loop-turn l =
    let shop = l.instance.shop in
    (front back : List ℕ) → IsNode shop front back l.node → AreLeast shop front back l.least → record {
      after : l.turn < shop.machines → IsAfter shop front l.job back (shop.machines - 1 - l.turn) l.after;
      last : l.turn < shop.machines → IsTail shop front l.job back (shop.machines - 1 - l.turn) l.last;
      most : NoneShorter shop front (l.job ∷ back) l.most;
    }
