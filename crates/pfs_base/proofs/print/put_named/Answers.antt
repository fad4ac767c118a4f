use Rattle.std.proofs.Common.{[], ◌∷◌, rules}
use Rattle.pfs_base.proofs.Published.SendsLemmas.{then_front, front_of}
use Rattle.pfs_base.proofs.print.put_named.Goals as goal

pub returns-in_err-numbered-clause-text : goal.returns-in_err-numbered-clause-text
returns-in_err-numbered-clause-text g c =
    let front = front_of (10 ∷ []) (then_front c.in_ok-named.ensures c.in_err-numbered.ensures.text) in
    search rules
