use Rattle.std.proofs.Common.{w16}
use Rattle.std.proofs.lemmas.Simd.{below_from_Fits}
use Rattle.pfs_batch.proofs.VectorSteps.{sum_is}
use Rattle.pfs_batch.proofs.lanes.saturating_sum.Goals as goal

pub returns : goal.returns
returns c = sum_is c.args.a c.args.b (below_from_Fits w16 c.args.a c.fits-a.1)
