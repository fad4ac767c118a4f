use Rattle.pfs_exact.proofs.Vectors.{lesser_is}
use Rattle.pfs_exact.proofs.lanes.lesser.Goals as goal

pub returns : goal.returns
returns c = lesser_is c.args.a c.args.b
