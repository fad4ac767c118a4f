use Rattle.std.proofs.Common.{◌≡◌, ◌+◌, ◌-◌, get_or, take, drop, ap, ◌∙◌, arith}
use Rattle.std.proofs.lemmas.List.{length-take, length-drop}
use Rattle.std.proofs.lemmas.Simd.{put_chunk_whole}
use borrow.Rule.Slice.PartMut.{put_mid}
use Rattle.pfs_exact.proofs.Vectors.{put_in}
use Rattle.pfs_exact.proofs.lanes.Lanes.store.Goals as goal

pub returns-clause-here : goal.returns-clause-here
returns-clause-here c lane lt =
    let at = c.args.at in
    let to = c.args.to.now in
    let n = at + 8 - at in
    let part = take n (drop at to) in
    let long = length-take n (drop at to) in
    let rest = length-drop at to in
    let wide = c.args.self.wide in
    let eight : n ≡ 8 = omega arith in
    let whole = put_chunk_whole part c.args.self.values (omega arith) in
    ap (λ v. get_or (put_mid at n to v) (at + lane) 0) whole
    ∙ put_in at n lane to c.args.self.values (omega arith) (omega arith) (omega arith)
