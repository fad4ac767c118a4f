use Rattle.std.proofs.Common.{◌≡◌, ℕ, suc, ◌+◌, ◌-◌, ◌<◌, max, ◌∷◌, get_or, ap, subst, arith}
use Rattle.pfs_base.specs.FlowShop.{time_of}
use Rattle.pfs_exact.specs.Private.Nodes.{IsLeast}
use Rattle.pfs_exact.proofs.MachineBounds.{IsAfter, IsTail, after-le, after_max, after_on, after_rest, bound_behind_at}
use Rattle.pfs_exact.proofs.MachineBounds.{tail_after, tail_max, tail_on}
use Rattle.pfs_exact.proofs.GrownEnds.{to_none}
use Rattle.pfs_exact.proofs.children.bound_behind.Goals as goal

pub loop-turn-init : goal.loop-turn-init
loop-turn-init c = λ front back node least.
    let shop = c.args.instance.now.shop in
    let job = c.args.job in
    let machine : ℕ = shop.machines - 1 - 0 in
    let after = λ (some : 0 < shop.machines). after-le shop front job back machine (get_or c.args.node.now.rests 0 0) 0 (omega arith)
    (after_rest shop front job back machine _ (node.rests 0 some)) in
    record {
      after = after;
      last = λ some. tail_after shop front job back machine 0 0 (omega arith) (after some);
      most = to_none shop front (job ∷ back) c.args.floor c.requires.floor;
    }

pub loop-turn-preserved : goal.loop-turn-preserved
loop-turn-preserved c = λ front back node least.
    let shop = c.args.instance.now.shop in
    let job = c.args.job in
    let turn = c.loop-turn.turn in
    let machine : ℕ = shop.machines - 1 - turn in
    let here : c.machines-machines.result - 1 - turn ≡ machine =
    ap (λ m. m - 1 - turn) c.machines-machines.ensures.value in
    let taken = c.time.ensures.value in
    let time_is = ap (time_of shop job) here in
    let left_is = ap (λ m. get_or c.args.node.now.left m 0) here in
    let start_is = ap (λ m. get_or c.args.node.now.starts m 0) here in
    let least_is = ap (λ m. get_or c.args.least.now m 0) here in
    let invariant = c.loop-turn.invariant front back node least in
    let rest : ℕ = get_or c.args.node.now.rests turn 0 in
    let least_time : ℕ = get_or c.args.least.now machine 0 in
    let after_sum = c.plus-after.ensures in
    let last_sum = c.plus-last.ensures in
    let sum = c.plus.ensures in
    let both = c.plus-rest.ensures in
    let tail : ℕ = max c.loop-turn.last c.plus-after.result in
    let after = after_max shop front job back machine c.loop-turn.after rest (invariant.after (omega arith))
    (after_rest shop front job back machine rest (node.rests turn (omega arith))) in
    let tails = tail_max shop front job back machine c.loop-turn.last c.plus-after.result (invariant.last (omega arith))
    (tail_after shop front job back machine (max c.loop-turn.after rest) c.plus-after.result (omega arith) after) in
    let bound = bound_behind_at shop front job back machine (get_or c.args.node.now.starts machine 0)
    (get_or c.args.node.now.left machine 0) tail c.saturating_sub.result (omega arith)
    (node.starts machine (omega arith)) (node.left machine (omega arith)) tails in
    let next : ℕ = shop.machines - 1 - (turn + 1) in
    let step = λ (some : turn + 1 < shop.machines). let e : machine ≡ suc next = omega arith in e in
    record {
      after = λ some.
          let at = ap (time_of shop job) (step some) in
          after_on shop front job back next (max c.loop-turn.after rest) c.plus-after.result (omega arith)
          (subst (λ m. IsAfter shop front job back m (max c.loop-turn.after rest)) (step some) after);
      last = λ some. tail_on shop front job back next tail least_time c.plus-last.result (omega arith)
          (subst (λ m. IsLeast shop front back m least_time) (step some) (least machine (omega arith)))
          (subst (λ m. IsTail shop front job back m tail) (step some) tails);
      most = λ middle full. let one = invariant.most middle full in let two = bound middle full in omega arith;
    }

pub returns : goal.returns
returns c = λ front back node least. (c.loop-turn.invariant front back node least).most
