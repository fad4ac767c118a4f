use Rattle.pfs_layout.proofs.Words.{rules, arith, then_front, front_of, canonical_text, row_lines, Size}
use Rattle.pfs_base.proofs.Published.SendsLemmas.{then_all}
use Rattle.pfs_layout.proofs.Texts.CanonicalFile.{length-head_lines, length-row_lines}
use Rattle.pfs_layout.proofs.writing.write_block.Goals as goal

pub put_head-requires-clause-fits : goal.put_head-requires-clause-fits
put_head-requires-clause-fits g c =
    let size : Size =
    record { jobs = c.jobs-jobs.result; machines = c.machines-machines.result; notes = c.notes-notes.result } in
    let short = length-head_lines c.args.layout size (search rules) in
    omega arith

pub put_rows-requires-clause-fits : goal.put_rows-requires-clause-fits
put_rows-requires-clause-fits g c =
    let size : Size =
    record { jobs = c.jobs-jobs.result; machines = c.machines-machines.result; notes = c.notes-notes.result } in
    let short = length-head_lines c.args.layout size (search rules) in
    let rows = length-row_lines c.args.layout c.args.instance.now.shop c.jobs-jobs.ensures.within in
    omega (arith, c.in_ok-sent.ensures.counted)

pub returns-in_err-sent : goal.returns-in_err-sent
unfolding canonical_text
returns-in_err-sent g c =
    let head = rw (c.jobs-jobs.ensures.value, c.machines-machines.ensures.value, c.notes-notes.ensures) at
    c.in_err-sent.ensures in
    let front = front_of (row_lines c.args.layout c.args.instance.now.shop) head in search rules

pub returns-in_err-put_rows : goal.returns-in_err-put_rows
unfolding canonical_text
returns-in_err-put_rows g c =
    let head = rw (c.jobs-jobs.ensures.value, c.machines-machines.ensures.value, c.notes-notes.ensures) at
    c.in_ok-sent.ensures in
    let front = then_front head c.in_err-put_rows.ensures in search rules

pub returns : goal.returns
unfolding canonical_text
returns g c =
    let head = rw (c.jobs-jobs.ensures.value, c.machines-machines.ensures.value, c.notes-notes.ensures) at
    c.in_ok-sent.ensures in
    let whole = then_all head c.in_ok-put_rows.ensures in
    (whole.working, whole.bytes)
