use Rattle.pfs_iterate.proofs.RoundLaws.{parts_law}
use Rattle.pfs_iterate.proofs.laws.parts.Goals as goal

pub returns : goal.returns
returns c = parts_law
