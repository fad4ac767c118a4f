use Rattle.pfs_batch.proofs.VectorSteps.{greater_is}
use Rattle.pfs_batch.proofs.lanes.greater.Goals as goal

pub returns : goal.returns
returns c = greater_is c.args.a c.args.b
