use Rattle.std.proofs.Common.{get_or, ◌∙◌, arith}
use Rattle.std.proofs.lemmas.List.{length-set}
use Rattle.pfs_exact.proofs.Cells.{at_most_more}
use Rattle.pfs_exact.proofs.eights.spread.Goals as goal

pub loop-machine-preserved : goal.loop-machine-preserved
loop-machine-preserved c =
    let at = c.loop-machine in
    let long = at.invariant.long in
    let inside = c.loop-machine-test.true in
    record {
      long = length-set at.lanes at.machine c.splat.result ∙ long;
      most = at_most_more at.machine (λ machine. get_or c.args.numbers.now machine 0) at.lanes c.splat.result (omega arith)
          (λ lane small. let is = c.splat.ensures lane small in omega arith) at.invariant.most;
    }
