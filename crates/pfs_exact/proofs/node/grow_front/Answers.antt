use Rattle.std.proofs.Common.{ℕ, List, get_or, sym, subst, arith, add-one}
use Rattle.pfs_exact.specs.Private.Nodes.{AreStarts}
use Rattle.pfs_base.proofs.Published.Partly.{partly_none, partly_more}
use Rattle.pfs_exact.proofs.MachineBounds.{IsBefore, IsEnd, before_zero, before_on, end_at, front_start}
use Rattle.pfs_exact.proofs.node.grow_front.Goals as goal

pub loop-machine-init : goal.loop-machine-init
loop-machine-init c = record {
  before = λ front back are. before_zero c.args.instance.now.shop front c.args.job back 0;
  starts = partly_none _ _ _ (omega arith);
}

pub loop-machine-preserved : goal.loop-machine-preserved
loop-machine-preserved c =
    let shop = c.args.instance.now.shop in
    let job = c.args.job in
    let machine = c.loop-machine.machine in
    let invariant = c.loop-machine.invariant in
    let plus = c.plus-before.ensures in
    let end = λ (front back : List ℕ) (are : AreStarts shop front back c.args.starts.now).
    end_at shop front job back machine c.loop-machine.before (get_or c.args.starts.now machine 0) c.plus-before.result
    (omega arith) (invariant.before front back are) (are machine (omega arith)) in
    record {
      before = λ front back are. subst (λ m. IsBefore shop front job back m c.plus-before.result) (sym (add-one machine))
          (before_on shop front job back machine c.plus-before.result (end front back are));
      starts = partly_more (λ m time. (front back : List ℕ) → AreStarts shop front back c.args.starts.now
          → IsEnd shop front job back m time) shop.machines machine c.plus-before.result c.args.next.now c.loop-machine.next
          (omega arith) invariant.starts end;
    }

pub returns-clause-starts : goal.returns-clause-starts
returns-clause-starts c = λ front back are machine small. front_start c.args.instance.now.shop front c.args.job back machine _
    (c.loop-machine.invariant.starts.done machine (omega arith) front back are)
