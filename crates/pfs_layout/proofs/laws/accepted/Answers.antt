use Rattle.pfs_layout.proofs.Published.LawLemmas.{accepted_law}
use Rattle.pfs_layout.proofs.laws.accepted.Goals as goal

pub returns : goal.returns
returns c = accepted_law
