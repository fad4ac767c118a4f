use Rattle.std.proofs.Common.{w16}
use Rattle.std.proofs.lemmas.Simd.{below_from_Fits}
use Rattle.pfs_wave.proofs.VectorLemmas.{short_sum_is}
use Rattle.pfs_wave.proofs.short.saturating_sum.Goals as goal

pub returns : goal.returns
returns c = short_sum_is c.args.a c.args.b (below_from_Fits w16 c.args.a c.fits-a.1)
