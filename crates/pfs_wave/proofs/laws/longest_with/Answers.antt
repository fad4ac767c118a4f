use Rattle.pfs_wave.proofs.Longest.{longest_with_law}
use Rattle.pfs_wave.proofs.laws.longest_with.Goals as goal

pub returns : goal.returns
returns c = longest_with_law
