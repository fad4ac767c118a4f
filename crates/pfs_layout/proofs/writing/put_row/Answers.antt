use Rattle.pfs_layout.proofs.Words.{rules, [], ◌∷◌, arith, goes_on-fits, goes_on-more, goes_on-stopped}
use Rattle.pfs_base.proofs.Published.SendsOn.{last_sends, last_fits}
use Rattle.pfs_layout.proofs.Texts.WritingLemmas.{number_on, row_ends}
use Rattle.pfs_layout.proofs.writing.put_row.Goals as goal

pub put_entry-requires-clause-fits : goal.put_entry-requires-clause-fits
put_entry-requires-clause-fits g c =
    let on = number_on c.args.layout c.args.instance.now.shop c.args.row c.loop-place.place (omega arith) in
    rw c.number_at-number.ensures (goes_on-fits _ _ _ _ _ _ _ _ _ on c.loop-place.invariant c.requires.fits)

pub returns-in_err-reached : goal.returns-in_err-reached
returns-in_err-reached g c =
    let on = number_on c.args.layout c.args.instance.now.shop c.args.row c.loop-place.place (omega arith) in
    let front = goes_on-stopped _ _ _ _ _ c.args.sent c.loop-place.reached _ _ _ _ _ on c.loop-place.invariant
    (rw c.number_at-number.ensures at c.in_err-reached.ensures) in
    search rules

pub loop-place-preserved : goal.loop-place-preserved
loop-place-preserved g c =
    let on = number_on c.args.layout c.args.instance.now.shop c.args.row c.loop-place.place (omega arith) in
    goes_on-more _ _ _ _ _ _ _ _ _ _ _ _ on c.loop-place.invariant
    (rw c.number_at-number.ensures at c.in_ok-reached.ensures)

pub put-requires-clause-fits : goal.put-requires-clause-fits
put-requires-clause-fits g c =
    let ends = row_ends c.args.layout c.args.instance.now.shop c.args.row c.loop-place.place (omega arith) in
    last_fits _ _ _ c.args.sent c.loop-place.reached _ _ (10 ∷ []) ends c.loop-place.invariant c.requires.fits

pub returns : goal.returns
returns g c =
    let ends = row_ends c.args.layout c.args.instance.now.shop c.args.row c.loop-place.place (omega arith) in
    last_sends _ _ _ _ _ c.args.sent c.loop-place.reached _ _ (10 ∷ []) _ ends c.loop-place.invariant c.put.ensures
