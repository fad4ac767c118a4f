use Rattle.std.proofs.Common.{◌-◌, get_or, ap, ◌∙◌, arith}
use Rattle.std.proofs.lemmas.Simd.{get_or-zip2}
use Rattle.pfs_exact.proofs.lanes.Lanes.minus.Goals as goal

pub returns : goal.returns
returns c lane lt =
    let a = c.args.self.values in
    let b = c.args.other.values in
    let a_long = c.args.self.wide in
    let b_long = c.args.other.wide in
    ap (λ v. get_or v lane 0) c.difference-values.ensures
    ∙ get_or-zip2 (λ x y. x - y) a b lane 0 0 0 (omega arith) (omega arith)
