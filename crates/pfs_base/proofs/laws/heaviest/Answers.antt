use Rattle.pfs_base.proofs.Published.Heaviest.{heaviest_law}
use Rattle.pfs_base.proofs.laws.heaviest.Goals as goal

pub returns : goal.returns
returns c = heaviest_law
