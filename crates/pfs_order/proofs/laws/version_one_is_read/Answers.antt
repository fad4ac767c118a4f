use Rattle.pfs_order.proofs.VersionOne.{version_one_is_read}
use Rattle.pfs_order.proofs.laws.version_one_is_read.Goals as goal

pub returns : goal.returns
returns c = version_one_is_read
