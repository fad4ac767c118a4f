use Rattle.pfs_audit.proofs.Schedules.{none_ends_earlier as the_law}
use Rattle.pfs_audit.proofs.laws.none_ends_earlier.Goals as goal

pub returns : goal.returns
returns c = the_law
