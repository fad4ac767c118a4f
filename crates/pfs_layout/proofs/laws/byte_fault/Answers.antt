use Rattle.pfs_layout.proofs.Published.PlaceLemmas.{byte_fault_is}
use Rattle.pfs_layout.proofs.laws.byte_fault.Goals as goal

pub returns : goal.returns
returns c = byte_fault_is
