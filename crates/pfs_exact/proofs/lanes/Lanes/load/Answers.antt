use Rattle.std.proofs.Common.{◌≡◌, ◌+◌, ◌-◌, get_or, take, drop, ap, ◌∙◌, arith}
use Rattle.std.proofs.lemmas.List.{get_or-take, get_or-drop}
use Rattle.std.proofs.lemmas.Simd.{get_or-chunk}
use Rattle.pfs_exact.proofs.lanes.Lanes.load.Goals as goal

pub returns : goal.returns
returns c lane lt =
    let at = c.args.at in
    let n = at + 8 - at in
    let from = c.args.from.now in
    let same : 0 + lane ≡ lane = omega arith in
    get_or-chunk 0 8 (take n (drop at from)) lane 0 lt ∙ get_or-take n (drop at from) (0 + lane) 0 (omega arith)
    ∙ get_or-drop at from (0 + lane) 0 ∙ ap (λ i. get_or from (at + i) 0) same
