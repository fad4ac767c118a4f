use Rattle.std.proofs.Common.{◌≡◌, get_or, refl, arith}
use Rattle.pfs_base.proofs.Published.Partly.{partly_none, partly_more}
use Rattle.pfs_exact.proofs.node.copy.Goals as goal

pub loop-at-init : goal.loop-at-init
loop-at-init c = partly_none _ _ _ (omega arith)

pub loop-at-preserved : goal.loop-at-preserved
loop-at-preserved c = partly_more (λ at number. number ≡ get_or c.args.from.now at 0) c.args.many c.loop-at.at _
    c.args.to.now c.loop-at.to (omega arith) c.loop-at.invariant refl

pub returns : goal.returns
returns c = λ at small. c.loop-at.invariant.done at (omega arith)
