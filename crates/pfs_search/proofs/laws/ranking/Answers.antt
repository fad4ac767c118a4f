use Rattle.pfs_search.proofs.OneRanking.{ranking_law}
use Rattle.pfs_search.proofs.laws.ranking.Goals as goal

pub returns : goal.returns
returns c = ranking_law
