use Rattle.pfs_audit.proofs.BoundLemmas.{bound_law as the_law}
use Rattle.pfs_audit.proofs.laws.bound_law.Goals as goal

pub returns : goal.returns
returns c = the_law
