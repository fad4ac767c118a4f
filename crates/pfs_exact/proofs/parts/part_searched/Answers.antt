use Rattle.pfs_exact.proofs.Covering.{part_searched}
use Rattle.pfs_exact.proofs.parts.part_searched.Goals as goal

pub returns : goal.returns
returns c = part_searched
