use Rattle.pfs_wave.proofs.PartLaws.{part_law}
use Rattle.pfs_wave.proofs.laws.parts.Goals as goal

pub returns : goal.returns
returns c = part_law
