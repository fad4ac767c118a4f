use Rattle.pfs_order.proofs.Published.OrderVerdicts.{text_or_fault}
use Rattle.pfs_order.proofs.laws.text_or_fault.Goals as goal

pub returns : goal.returns
returns c = text_or_fault
