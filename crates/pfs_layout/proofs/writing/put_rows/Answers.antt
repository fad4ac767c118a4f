use Rattle.pfs_layout.proofs.Words.{rules, arith, goes_on-fits, goes_on-more, goes_on-stopped}
use Rattle.pfs_layout.proofs.Texts.WritingLemmas.{row_on}
use Rattle.pfs_layout.proofs.writing.put_rows.Goals as goal

pub put_row-requires-clause-fits : goal.put_row-requires-clause-fits
put_row-requires-clause-fits g c =
    let on = row_on c.args.layout c.args.instance.now.shop c.loop-row.row (omega arith) in
    goes_on-fits _ _ _ c.args.sent c.loop-row.reached _ _ _ _ on c.loop-row.invariant c.requires.fits

pub returns-in_err-reached : goal.returns-in_err-reached
returns-in_err-reached g c =
    let on = row_on c.args.layout c.args.instance.now.shop c.loop-row.row (omega arith) in
    let front = goes_on-stopped _ _ _ _ _ _ _ _ _ _ _ _ on c.loop-row.invariant c.in_err-reached.ensures in
    search rules

pub loop-row-preserved : goal.loop-row-preserved
loop-row-preserved g c =
    let on = row_on c.args.layout c.args.instance.now.shop c.loop-row.row (omega arith) in
    goes_on-more _ _ _ _ _ c.args.sent c.loop-row.reached _ _ _ _ _ on c.loop-row.invariant c.in_ok-reached.ensures
