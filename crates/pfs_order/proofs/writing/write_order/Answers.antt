use Rattle.std.proofs.Common.{rules, ◌++◌, sym, ◌∙◌, append_assoc, arith}
use Rattle.pfs_base.proofs.Published.SendsLemmas.{then_all, then_front, then_sends, front_of}
use Rattle.pfs_order.proofs.FileLines.{jobs_line, makespan_line, order_lines, lines_fit}
use Rattle.pfs_order.proofs.writing.write_order.Goals as goal

pub put_jobs-requires-clause-fits : goal.put_jobs-requires-clause-fits
put_jobs-requires-clause-fits g c =
    let fit = lines_fit c.args.order.now c.len.result c.args.machines c.args.makespan c.len.ensures.value
    c.len.ensures.accepted c.len.ensures.sequence c.requires.machines c.requires.stated in
    omega (arith, fit, c.in_ok-sent.ensures.counted)

pub put_named-requires-clause-fits : goal.put_named-requires-clause-fits
put_named-requires-clause-fits g c =
    let fit = lines_fit c.args.order.now c.len.result c.args.machines c.args.makespan c.len.ensures.value
    c.len.ensures.accepted c.len.ensures.sequence c.requires.machines c.requires.stated in
    omega (arith, fit, c.in_ok-sent.ensures.counted, c.in_ok-sent-2.ensures.counted)

pub returns-in_err-sent : goal.returns-in_err-sent
returns-in_err-sent g c =
    let lines = order_lines c.args.order.now c.len.result c.args.machines c.args.makespan c.len.ensures.value in
    let whole = sym (append_assoc _ (jobs_line c.args.order.now) (makespan_line c.args.makespan)) ∙ lines in
    let front = front_of (jobs_line c.args.order.now ++ makespan_line c.args.makespan) c.in_err-sent.ensures in
    let sent = rw whole at front in
    search rules

pub returns-in_err-sent-2 : goal.returns-in_err-sent-2
returns-in_err-sent-2 g c =
    let lines = order_lines c.args.order.now c.len.result c.args.machines c.args.makespan c.len.ensures.value in
    let front = front_of (makespan_line c.args.makespan) (then_front c.in_ok-sent.ensures c.in_err-sent-2.ensures) in
    let sent = rw lines at front in
    search rules

pub returns : goal.returns
returns g c =
    let lines = order_lines c.args.order.now c.len.result c.args.machines c.args.makespan c.len.ensures.value in
    let both = then_all c.in_ok-sent.ensures c.in_ok-sent-2.ensures in
    rw lines at (then_sends _ _ _ c.put_named.result both c.put_named.ensures.text)
