use Rattle.pfs_audit.proofs.Schedules.{one_least_schedule as the_law}
use Rattle.pfs_audit.proofs.laws.one_least_schedule.Goals as goal

pub returns : goal.returns
returns c = the_law
