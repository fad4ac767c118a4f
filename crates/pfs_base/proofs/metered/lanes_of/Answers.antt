use Rattle.std.proofs.Common.{rules, map, ap, sym, ◌∙◌, to_z}
use Rattle.std.specs.Int.{w64}
use Rattle.std.proofs.lemmas.Int.{to_z-of_z}
use mir.Val.{SFits}
use Rattle.pfs_base.proofs.Sums.{four_same, chunk_four}
use Rattle.pfs_base.proofs.metered.lanes_of.Goals as goal

pub returns : goal.returns
returns c =
    let row = c.args.row.now in
    let at = c.args.at in
    let zeroth : SFits w64 c.signed.result = search rules in
    let first : SFits w64 c.signed-2.result = search rules in
    let second : SFits w64 c.signed-3.result = search rules in
    let third : SFits w64 c.signed-4.result = search rules in
    let w = to_z-of_z w64 c.signed.result zeroth ∙ c.signed.ensures ∙ ap (to_z w64) c.index-row-at.is in
    let x = to_z-of_z w64 c.signed-2.result first ∙ c.signed-2.ensures ∙ ap (to_z w64) c.index-row-at-2.is in
    let y = to_z-of_z w64 c.signed-3.result second ∙ c.signed-3.ensures ∙ ap (to_z w64) c.index-row-at-3.is in
    let z = to_z-of_z w64 c.signed-4.result third ∙ c.signed-4.ensures ∙ ap (to_z w64) c.index-row-at-4.is in
    four_same w x y z
    ∙ sym (ap (map (to_z w64)) (chunk_four row at c.index-row-at.result c.index-row-at-2.result
    c.index-row-at-3.result c.index-row-at-4.result c.requires))
