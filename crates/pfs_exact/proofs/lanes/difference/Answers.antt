use Rattle.std.proofs.Common.{w16}
use Rattle.std.proofs.lemmas.Simd.{below_from_Fits}
use Rattle.pfs_exact.proofs.Vectors.{difference_is}
use Rattle.pfs_exact.proofs.lanes.difference.Goals as goal

pub returns : goal.returns
returns c =
    difference_is c.args.a c.args.b (below_from_Fits w16 c.args.a c.fits-a.1) (below_from_Fits w16 c.args.b c.fits-b.1)
