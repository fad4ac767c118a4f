use Rattle.pfs_iterate.proofs.RoundLaws.{greedy_law}
use Rattle.pfs_iterate.proofs.laws.greedy.Goals as goal

pub returns : goal.returns
returns c = greedy_law
