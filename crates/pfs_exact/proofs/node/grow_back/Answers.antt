use Rattle.std.proofs.Common.{◌≡◌, ℕ, suc, ◌+◌, ◌-◌, ◌∷◌, max, List, get_or, ap, subst, arith}
use Rattle.pfs_base.specs.FlowShop.{time_of}
use Rattle.pfs_exact.specs.Private.Nodes.{AreRests, IsRest}
use Rattle.pfs_base.proofs.Published.Partly.{partly_none, partly_more}
use Rattle.pfs_exact.proofs.MachineBounds.{IsAfter, after-le, after_max, after_on, after_rest, back_rest}
use Rattle.pfs_exact.proofs.node.grow_back.Goals as goal

pub loop-turn-init : goal.loop-turn-init
loop-turn-init c = record {
  after = λ some front back are. let shop = c.args.instance.now.shop in
      after-le shop front c.args.job back (shop.machines - 1 - 0) (get_or c.args.rests.now 0 0) 0 (omega arith)
      (after_rest shop front c.args.job back (shop.machines - 1 - 0) _ (are 0 some));
  rests = partly_none _ _ _ (omega arith);
}

pub loop-turn-preserved : goal.loop-turn-preserved
loop-turn-preserved c =
    let shop = c.args.instance.now.shop in
    let job = c.args.job in
    let turn = c.loop-turn.turn in
    let machine : ℕ = shop.machines - 1 - turn in
    let invariant = c.loop-turn.invariant in
    let rest = get_or c.args.rests.now turn 0 in
    let time = ap (λ m. time_of shop job (m - 1 - turn)) c.machines-machines.ensures.value in
    let plus = c.plus-after.ensures in
    let after = λ (front back : List ℕ) (are : AreRests shop front back c.args.rests.now).
    after_max shop front job back machine c.loop-turn.after rest (invariant.after (omega arith) front back are)
    (after_rest shop front job back machine rest (are turn (omega arith))) in
    record {
      after = λ some front back are.
          let next : ℕ = shop.machines - 1 - (turn + 1) in
          let step : machine ≡ suc next = omega arith in
          let at = ap (time_of shop job) step in
          after_on shop front job back next (max c.loop-turn.after rest) c.plus-after.result (omega arith)
          (subst (λ m. IsAfter shop front job back m (max c.loop-turn.after rest)) step (after front back are));
      rests = partly_more (λ t time. (front back : List ℕ) → AreRests shop front back c.args.rests.now
          → IsRest shop front (job ∷ back) (shop.machines - 1 - t) time) shop.machines turn c.plus-after.result
          c.args.next.now c.loop-turn.next (omega arith) invariant.rests
          (λ front back are. back_rest shop front job back machine (max c.loop-turn.after rest) c.plus-after.result (omega arith)
          (after front back are));
    }

pub returns-clause-rests : goal.returns-clause-rests
returns-clause-rests c = λ front back are turn small. c.loop-turn.invariant.rests.done turn (omega arith) front back are
