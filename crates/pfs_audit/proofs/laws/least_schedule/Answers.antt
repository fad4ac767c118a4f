use Rattle.pfs_audit.proofs.Schedules.{least_schedule_law as the_law}
use Rattle.pfs_audit.proofs.laws.least_schedule.Goals as goal

pub returns : goal.returns
returns c = the_law
