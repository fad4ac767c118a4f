use Rattle.pfs_order.proofs.Published.OrderVerdicts.{cut_fault}
use Rattle.pfs_order.proofs.laws.cut_text.Goals as goal

pub returns : goal.returns
returns c = cut_fault
