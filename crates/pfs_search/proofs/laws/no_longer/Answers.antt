use Rattle.pfs_search.proofs.NoLonger.{no_longer_law}
use Rattle.pfs_search.proofs.laws.no_longer.Goals as goal

pub returns : goal.returns
returns c = no_longer_law
