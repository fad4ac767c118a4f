use Rattle.pfs_exact.proofs.Covering.{nothing_left}
use Rattle.pfs_exact.proofs.parts.nothing_left.Goals as goal

pub returns : goal.returns
returns c = nothing_left
