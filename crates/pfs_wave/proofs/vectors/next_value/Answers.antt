use Rattle.std.proofs.Common.{max}
use Rattle.pfs_wave.proofs.vectors.next_value.Goals as goal

pub returns : goal.returns
returns g c lane a b t lt beside above time =
    c.sum.ensures lane (max a b) t lt (c.greater.ensures lane a b lt beside above) time
