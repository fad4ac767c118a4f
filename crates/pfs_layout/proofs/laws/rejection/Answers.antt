use Rattle.pfs_layout.proofs.Published.PlaceLemmas.{rejection_is}
use Rattle.pfs_layout.proofs.laws.rejection.Goals as goal

pub returns : goal.returns
returns c = rejection_is
