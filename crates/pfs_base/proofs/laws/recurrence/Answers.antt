use Rattle.pfs_base.proofs.MakespanLaws.{recurrence_law}
use Rattle.pfs_base.proofs.laws.recurrence.Goals as goal

pub returns : goal.returns
returns c = recurrence_law
