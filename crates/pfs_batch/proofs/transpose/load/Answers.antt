use Rattle.std.proofs.Common.{◌≡◌, ◌+◌, ◌-◌, get_or, take, drop, ap, ◌∙◌, arith}
use Rattle.std.proofs.lemmas.List.{get_or-take, get_or-drop}
use Rattle.std.proofs.lemmas.Simd.{get_or-chunk}
use Rattle.pfs_batch.proofs.transpose.load.Goals as goal

pub returns-clause-each : goal.returns-clause-each
returns-clause-each c k lt =
    let at = get_or c.args.starts.now c.args.lane 0 + c.args.first in
    let n = at + 8 - at in
    let rows = c.args.rows.now in
    let same : 0 + k ≡ k = omega arith in
    get_or-chunk 0 8 (take n (drop at rows)) k 0 lt ∙ get_or-take n (drop at rows) (0 + k) 0 (omega arith)
    ∙ get_or-drop at rows (0 + k) 0 ∙ ap (λ i. get_or rows (at + i) 0) same
