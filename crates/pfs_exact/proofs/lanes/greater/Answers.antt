use Rattle.pfs_exact.proofs.Vectors.{greater_is}
use Rattle.pfs_exact.proofs.lanes.greater.Goals as goal

pub returns : goal.returns
returns c = greater_is c.args.a c.args.b
