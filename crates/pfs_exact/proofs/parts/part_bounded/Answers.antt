use Rattle.pfs_exact.proofs.Covering.{part_bounded}
use Rattle.pfs_exact.proofs.parts.part_bounded.Goals as goal

pub returns : goal.returns
returns c = part_bounded
