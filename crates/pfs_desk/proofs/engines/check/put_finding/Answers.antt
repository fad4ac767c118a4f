use Rattle.pfs_base.proofs.Published.SendsLemmas.{then_all, then_sends}
use Rattle.pfs_desk.proofs.engines.check.put_finding.Goals as goal

pub returns-clause-text : goal.returns-clause-text
returns-clause-text g c =
    then_sends _ _ _ c.put_named-2.result
    (then_all c.in_ok-sent.ensures.text c.in_ok-sent-2.ensures.text) c.put_named-2.ensures.text
