use Rattle.pfs_wave.proofs.CappedLeast.{capped_least_law}
use Rattle.pfs_wave.proofs.laws.least.Goals as goal

pub returns : goal.returns
returns c = capped_least_law
