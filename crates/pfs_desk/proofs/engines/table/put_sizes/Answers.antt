use Rattle.std.proofs.Common.{[], ◌∷◌, decimal, append_assoc, rules}
use Rattle.pfs_base.proofs.Published.SendsLemmas.{then_all, then_front, then_sends, front_of}
use Rattle.pfs_desk.specs.OutputText.{sizes_text}
use Rattle.pfs_desk.proofs.engines.table.put_sizes.Goals as goal

pub returns-in_err-sent-2-clause-text : goal.returns-in_err-sent-2-clause-text
unfolding sizes_text
returns-in_err-sent-2-clause-text g c =
    let sizes = front_of (32 ∷ decimal c.args.table.now.machines)
    (then_front c.in_ok-sent.ensures c.in_err-sent-2.ensures.text) in
    let front = front_of (10 ∷ []) (rw append_assoc at sizes) in
    search rules

pub returns-in_err-sent-3-clause-text : goal.returns-in_err-sent-3-clause-text
unfolding sizes_text
returns-in_err-sent-3-clause-text g c =
    let sizes = then_front (then_all c.in_ok-sent.ensures c.in_ok-sent-2.ensures.text) c.in_err-sent-3.ensures.text in
    let front = front_of (10 ∷ []) (rw append_assoc at sizes) in
    search rules

pub returns-clause-text : goal.returns-clause-text
unfolding sizes_text
returns-clause-text g c =
    let sizes = then_all (then_all c.in_ok-sent.ensures c.in_ok-sent-2.ensures.text) c.in_ok-sent-3.ensures.text in
    rw (c.rows.ensures.value, c.machines.ensures.value) at (then_sends _ _ _ c.put-2.result sizes c.put-2.ensures)
