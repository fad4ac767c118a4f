use Rattle.std.proofs.Common.{◌≡◌, ◌∙◌, decimal}
use Rattle.pfs_base.proofs.Published.Printing.{entry_later}
use Rattle.pfs_base.proofs.Published.SendsLemmas.{then_sends}
use Rattle.pfs_base.proofs.print.put_entry.Goals as goal

pub returns-in_ok-sent : goal.returns-in_ok-sent
returns-in_ok-sent g c =
    let digits : c.as_bytes-digits.result.now ≡ decimal c.args.number =
    c.as_bytes-digits.ensures.value ∙ c.format.ensures.text in
    rw (entry_later c.args.place c.args.number c.if-place-eq0.false, ← digits)
    (then_sends _ _ c.as_bytes-digits.result.now c.put-else-place-eq0-2.result c.in_ok-sent.ensures
    c.put-else-place-eq0-2.ensures)
