use Rattle.pfs_layout.proofs.Words.{rules, ◌≡◌, Err, then_front, front_of}
use Rattle.pfs_base.proofs.Published.SendsLemmas.{then_all, then_sends}
use Rattle.pfs_layout.proofs.writing.put_head.Goals as goal

pub returns-in_err-sent-2 : goal.returns-in_err-sent-2
returns-in_err-sent-2 g c =
    let preamble = c.preamble_of-preamble.ensures in
    let returned : c.from_residual-in_err-sent-2.result ≡ Err c.in_err-sent-2.field-0.0 = search rules in
    rw (returned, ← preamble.before, ← preamble.size_numbers, ← preamble.after)
    (front_of _ (then_front c.in_ok-sent.ensures c.in_err-sent-2.ensures))

pub returns : goal.returns
returns g c =
    let preamble = c.preamble_of-preamble.ensures in
    rw (← preamble.before, ← preamble.size_numbers, ← preamble.after)
    (then_sends _ _ _ c.put-2.result (then_all c.in_ok-sent.ensures c.in_ok-sent-2.ensures) c.put-2.ensures)
