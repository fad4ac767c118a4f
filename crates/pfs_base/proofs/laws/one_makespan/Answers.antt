use Rattle.pfs_base.proofs.MakespanLaws.{one_makespan as the_only}
use Rattle.pfs_base.proofs.laws.one_makespan.Goals as goal

pub returns : goal.returns
returns c = the_only
