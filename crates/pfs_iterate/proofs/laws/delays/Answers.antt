use Rattle.pfs_iterate.proofs.Delays.{delay_law}
use Rattle.pfs_iterate.proofs.laws.delays.Goals as goal

pub returns : goal.returns
returns c = delay_law
