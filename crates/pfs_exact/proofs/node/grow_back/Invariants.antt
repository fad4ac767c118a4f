use Rattle.std.proofs.Common.{ℕ, ◌-◌, ◌<◌, ◌∷◌, List}
use Rattle.pfs_exact.specs.Private.Nodes.{AreRests, IsRest}
use Rattle.pfs_base.proofs.Published.Partly.{Partly}
use Rattle.pfs_exact.proofs.MachineBounds.{IsAfter}
use Rattle.pfs_exact.proofs.node.grow_back.Given as goal

abbrev pub invariant-loop-turn : goal.invariant-loop-turn
invariant-loop-turn l =
    let shop = l.instance.shop in
    record {
      after : l.turn < shop.machines → (front back : List ℕ) → AreRests shop front back l.rests
          → IsAfter shop front l.job back (shop.machines - 1 - l.turn) l.after;
      rests : Partly (λ turn time. (front back : List ℕ) → AreRests shop front back l.rests
          → IsRest shop front (l.job ∷ back) (shop.machines - 1 - turn) time) shop.machines l.turn l.fn.next l.next;
    }
