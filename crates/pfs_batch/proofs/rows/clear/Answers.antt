use Rattle.std.proofs.Common.{get_or, ap, ◌∙◌, arith}
use Rattle.std.proofs.lemmas.List.{get_or-replicate}
use Rattle.pfs_batch.proofs.Filled.{row_filled_more}
use Rattle.pfs_batch.proofs.rows.clear.Goals as goal

pub loop-machine-preserved : goal.loop-machine-preserved
loop-machine-preserved c =
    let at = c.loop-machine in
    let long = at.invariant.long in
    let inside = c.loop-machine-test.true in
    row_filled_more _ _ at.machine at.ends c.zeros.result at.invariant (omega arith)
    (λ lane lt. ap (λ v. get_or v lane 0) c.zeros.ensures ∙ get_or-replicate 8 lane 0 0 lt)
