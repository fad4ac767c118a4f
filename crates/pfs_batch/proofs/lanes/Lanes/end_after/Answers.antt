use Rattle.std.proofs.Common.{length, get_or, max, ap, ◌∙◌, ◌+◌, arith}
use Rattle.std.proofs.lemmas.Simd.{get_or-zip2, length-zip2}
use Rattle.pfs_batch.specs.Private.Lanes.{capped, capped_sum}
use Rattle.pfs_batch.proofs.lanes.Lanes.end_after.Goals as goal

pub returns : goal.returns
returns c lane lt =
    let a = c.args.above.values in
    let b = c.args.self.values in
    let t = c.args.time.values in
    let a_long = c.args.above.wide in
    let b_long = c.args.self.wide in
    let t_long = c.args.time.wide in
    let long = ap length c.greater.ensures ∙ length-zip2 max a b (omega arith) in
    ap (λ v. get_or v lane 0) c.saturating_sum-values.ensures
    ∙ get_or-zip2 capped_sum c.greater.result t lane 0 0 0 (omega arith) (omega arith)
    ∙ ap (λ x. capped (x + get_or t lane 0)) (ap (λ v. get_or v lane 0) c.greater.ensures
    ∙ get_or-zip2 max a b lane 0 0 0 (omega arith) (omega arith))
