use Rattle.pfs_base.proofs.MakespanLaws.{makespan_law}
use Rattle.pfs_base.proofs.laws.makespan.Goals as goal

pub returns : goal.returns
returns c = makespan_law
