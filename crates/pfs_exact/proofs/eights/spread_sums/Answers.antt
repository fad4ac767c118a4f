use Rattle.std.proofs.Common.{◌+◌, get_or, ◌∙◌, arith}
use Rattle.std.proofs.lemmas.List.{length-set}
use Rattle.pfs_exact.proofs.Cells.{at_most_more, read_lane}
use Rattle.pfs_exact.proofs.eights.spread_sums.Goals as goal

pub loop-machine-preserved : goal.loop-machine-preserved
loop-machine-preserved c =
    let at = c.loop-machine in
    let machine = at.machine in
    let long = at.invariant.long in
    let inside = c.loop-machine-test.true in
    record {
      long = length-set at.lanes machine c.plus.result ∙ long;
      most = λ sums are.
          at_most_more machine (λ m. get_or c.args.numbers.now m 0 + sums m) at.lanes c.plus.result (omega arith)
          (λ lane small.
          let number = c.splat-number.ensures lane small in
          let other = read_lane c.args.others.now machine lane c.index-others-machine.result (omega arith)
          c.index-others-machine.is in
          let fits = are machine lane inside small in
          let sum = c.plus.ensures lane small in
          omega arith) (at.invariant.most sums are);
    }

pub returns-clause-least : goal.returns-clause-least
returns-clause-least c = λ sums are machine lane small lane_small.
    c.loop-machine.invariant.most sums are machine lane (omega arith) lane_small
