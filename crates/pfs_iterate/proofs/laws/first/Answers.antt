use Rattle.pfs_iterate.proofs.RoundLaws.{first_law}
use Rattle.pfs_iterate.proofs.laws.first.Goals as goal

pub returns : goal.returns
returns c = first_law
