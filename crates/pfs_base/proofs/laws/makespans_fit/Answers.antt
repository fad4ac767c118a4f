use Rattle.pfs_base.proofs.Published.Heads.{none_longer}
use Rattle.pfs_base.proofs.laws.makespans_fit.Goals as goal

pub returns-clause-none_longer : goal.returns-clause-none_longer
returns-clause-none_longer c = none_longer
