use Rattle.pfs_layout.proofs.Files.EndLemmas.{free_after}
use Rattle.pfs_layout.proofs.laws.free_after.Goals as goal

pub returns : goal.returns
returns c = free_after
