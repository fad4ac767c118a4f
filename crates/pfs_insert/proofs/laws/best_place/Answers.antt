use Rattle.pfs_insert.proofs.FirstLeast.{best_place_law}
use Rattle.pfs_insert.proofs.laws.best_place.Goals as goal

pub returns : goal.returns
returns c = best_place_law
