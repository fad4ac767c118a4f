use Rattle.pfs_exact.proofs.Covering.{parts_bounded}
use Rattle.pfs_exact.proofs.parts.parts_bounded.Goals as goal

pub returns : goal.returns
returns c = parts_bounded
