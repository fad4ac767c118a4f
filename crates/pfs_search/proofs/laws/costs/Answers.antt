use Rattle.pfs_search.proofs.Published.CostSums.{costs_law}
use Rattle.pfs_search.proofs.laws.costs.Goals as goal

pub returns : goal.returns
returns c = costs_law
