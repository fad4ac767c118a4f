use Rattle.std.proofs.Common.{[], ◌∷◌, ◌++◌, decimal, append_assoc, rules}
use Rattle.pfs_base.proofs.Published.SendsLemmas.{then_all, then_front, then_sends, front_of}
use Rattle.pfs_base.proofs.print.put_between.Goals as goal

pub returns-in_err-numbered-clause-text : goal.returns-in_err-numbered-clause-text
returns-in_err-numbered-clause-text g c =
    let numbered = then_front c.in_ok-sent.ensures c.in_err-numbered.ensures.text in
    let front = front_of (10 ∷ []) (front_of c.args.after.now numbered) in
    search rules

pub returns-clause-text : goal.returns-clause-text
returns-clause-text g c =
    let numbered = then_all c.in_ok-sent.ensures c.in_ok-numbered.ensures.text in
    rw (append_assoc (c.args.before.now ++ decimal c.args.number) c.args.after.now (10 ∷ []))
    (then_sends _ _ _ c.put_line.result numbered c.put_line.ensures.text)
