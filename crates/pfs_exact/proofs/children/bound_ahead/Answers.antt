use Rattle.std.proofs.Common.{◌≡◌, ℕ, ◌-◌, max, [], ◌∷◌, ◌++◌, get_or, ap, sym, subst, arith, add-one}
use Rattle.pfs_base.specs.FlowShop.{time_of}
use Rattle.pfs_exact.specs.Private.Nodes.{IsRest}
use Rattle.pfs_exact.proofs.MachineBounds.{IsBefore, IsReady, before_zero, before_on, end_at, front_left, front_rest}
use Rattle.pfs_exact.proofs.MachineBounds.{ready_zero, ready_end, ready_on, bound_at}
use Rattle.pfs_exact.proofs.GrownEnds.{to_none}
use Rattle.pfs_exact.proofs.children.bound_ahead.Goals as goal

pub loop-machine-init : goal.loop-machine-init
loop-machine-init c = λ front back node least. let shop = c.args.instance.now.shop in record {
  before = before_zero shop front c.args.job back 0;
  next = ready_zero shop (front ++ c.args.job ∷ []) back 0;
  most = to_none shop (front ++ c.args.job ∷ []) back c.args.floor c.requires.floor;
}

pub loop-machine-preserved : goal.loop-machine-preserved
loop-machine-preserved c = λ front back node least.
    let shop = c.args.instance.now.shop in
    let job = c.args.job in
    let machine = c.loop-machine.machine in
    let invariant = c.loop-machine.invariant front back node least in
    let turn : ℕ = shop.machines - 1 - machine in
    let there : shop.machines - 1 - turn ≡ machine = omega arith in
    let read = ap (λ m. get_or c.args.node.now.rests (m - 1 - machine) 0) c.machines-machines.ensures.value in
    let time : ℕ = time_of shop job machine in
    let taken = c.time.ensures.value in
    let left : ℕ = get_or c.args.node.now.left machine 0 in
    let rest : ℕ = get_or c.args.node.now.rests turn 0 in
    let start : ℕ = max c.loop-machine.next c.plus-before.result in
    let before = c.plus-before.ensures in
    let next = c.plus-next.ensures in
    let sum = c.plus.ensures in
    let both = c.plus-rest.ensures in
    let end = end_at shop front job back machine c.loop-machine.before (get_or c.args.node.now.starts machine 0)
    c.plus-before.result (omega arith) invariant.before (node.starts machine (omega arith)) in
    let ready = ready_end shop front job back machine c.loop-machine.next c.plus-before.result invariant.next end in
    let bound = bound_at shop (front ++ job ∷ []) back machine start (left - time) rest c.saturating_sub.result (omega arith)
    ready (front_left shop front job back machine left (left - time) (omega arith) (node.left machine (omega arith)))
    (front_rest shop front job back machine rest
    (subst (λ m. IsRest shop front back m rest) there (node.rests turn (omega arith)))) in
    record {
      before = subst (λ m. IsBefore shop front job back m c.plus-before.result) (sym (add-one machine))
          (before_on shop front job back machine c.plus-before.result end);
      next = subst (λ m. IsReady shop (front ++ job ∷ []) back m c.plus-next.result) (sym (add-one machine))
          (ready_on shop front job back machine start (get_or c.args.least.now machine 0) c.plus-next.result (omega arith)
          (least machine (omega arith)) ready);
      most = λ middle full. let one = invariant.most middle full in let two = bound middle full in omega arith;
    }

pub returns : goal.returns
returns c = λ front back node least. (c.loop-machine.invariant front back node least).most
