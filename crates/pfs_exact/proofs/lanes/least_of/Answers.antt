use Rattle.std.proofs.Common.{◌≡◌, ◌∙◌, [], ◌∷◌, get_or, ap, subst, sym, ◌≤◌}
use Rattle.pfs_exact.proofs.Vectors.{folded, folded_least, folded_thrice}
use Rattle.pfs_exact.proofs.lanes.least_of.Goals as goal

pub returns : goal.returns
returns c lane lt =
    let a = c.args.a in
    let last : c.lesser-d.result ≡ folded_thrice a = c.lesser-d.ensures
    ∙ ap (λ v. folded v (1 ∷ 0 ∷ 3 ∷ 2 ∷ 5 ∷ 4 ∷ 7 ∷ 6 ∷ [])) (c.lesser-c.ensures
    ∙ ap (λ v. folded v (2 ∷ 3 ∷ 0 ∷ 1 ∷ 6 ∷ 7 ∷ 4 ∷ 5 ∷ [])) c.lesser-b.ensures) in
    subst (λ v. get_or v 0 0 ≤ get_or a lane 0) (sym last) (folded_least a c.requires lane lt)
