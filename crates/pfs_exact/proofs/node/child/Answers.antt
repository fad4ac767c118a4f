use Rattle.std.proofs.Common.{◌-◌, [], ◌∷◌, ◌++◌, get_or, ap, sym, ◌∙◌, subst, arith}
use Rattle.pfs_exact.specs.declared.node.Node.{Node}
use Rattle.pfs_exact.specs.Private.Nodes.{IsNode, IsRest, IsStart, put_of}
use Rattle.pfs_exact.proofs.MachineBounds.{front_left, front_rest, back_left, back_start}
use Rattle.pfs_exact.proofs.node.child.Goals as goal
use Rattle.pfs_exact.proofs.node.child.Goals.{then-forward, else-forward}

pub returns : goal.returns
returns c = λ ends is.
    let shop = c.args.instance.now.shop in
    let front = ends.front.jobs in
    let back = ends.back.jobs in
    let job = c.args.job in
    let node = c.args.node.now in
    elim c.if-forward.branch [
      | then-forward w ↦
          subst (λ f. IsNode shop (put_of f ends job).front.jobs (put_of f ends job).back.jobs
          (record c.if-forward.next { left = c.leave.new.next })) (sym w.if-forward.true) (record {
            starts = λ m small. subst (IsStart shop (front ++ job ∷ []) back m)
                (sym (ap (λ (n : Node). get_or n.starts m 0) w.next-is)) (w.grow_front.ensures.starts front back is.starts m small);
            rests = λ turn small. subst (IsRest shop (front ++ job ∷ []) back (shop.machines - 1 - turn))
                (sym (ap (λ (n : Node). get_or n.rests turn 0) w.next-is ∙ w.copy.ensures turn (omega arith)))
                (front_rest shop front job back (shop.machines - 1 - turn) _ (is.rests turn small));
            left = λ m small. front_left shop front job back m (get_or node.left m 0) (get_or c.leave.new.next m 0)
                (c.leave.ensures.left m small) (is.left m small);
          })
      | else-forward w ↦
          subst (λ f. IsNode shop (put_of f ends job).front.jobs (put_of f ends job).back.jobs
          (record c.if-forward.next { left = c.leave.new.next })) (sym w.if-forward.false) (record {
            starts = λ m small. subst (IsStart shop front (job ∷ back) m)
                (sym (ap (λ (n : Node). get_or n.starts m 0) w.next-is ∙ w.copy-else-forward.ensures m (omega arith)))
                (back_start shop front job back m _ (is.starts m small));
            rests = λ turn small. subst (IsRest shop front (job ∷ back) (shop.machines - 1 - turn))
                (sym (ap (λ (n : Node). get_or n.rests turn 0) w.next-is)) (w.grow_back.ensures.rests front back is.rests turn small);
            left = λ m small. back_left shop front job back m (get_or node.left m 0) (get_or c.leave.new.next m 0)
                (c.leave.ensures.left m small) (is.left m small);
          })
    ]
