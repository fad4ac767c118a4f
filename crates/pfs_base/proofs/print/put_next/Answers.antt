use Rattle.pfs_base.proofs.Published.SendsLemmas.{then_sends}
use Rattle.pfs_base.proofs.print.put_next.Goals as goal

pub returns-clause-text : goal.returns-clause-text
returns-clause-text g c = then_sends _ _ _ c.put_number.result c.in_ok-spaced.ensures c.put_number.ensures.text
