use Rattle.pfs_order.proofs.Published.OrderVerdicts.{some_verdict}
use Rattle.pfs_order.proofs.laws.some_verdict.Goals as goal

pub returns : goal.returns
returns c = some_verdict
