use Rattle.std.proofs.Common.{◌+◌, max, refl, arith}
use Rattle.pfs_wave.proofs.TailCells.{changed}
use Rattle.pfs_wave.proofs.vectors.second_value.Goals as goal

pub returns : goal.returns
returns g c lane a b t d u lt beside above time next_above next_time =
    let both = c.sum-both.ensures lane t u lt time next_time in
    let without = c.sum-without.ensures lane d u lt next_above next_time in
    let greater = c.greater-greater.ensures lane a b lt beside above in
    let later = c.sum.ensures lane (max a b) (t + u) lt greater both in
    changed g.V.Band.Holds refl (omega arith) (c.greater.ensures lane (max a b + (t + u)) (d + u) lt later without)
