use Rattle.std.proofs.Common.{rules}
use Rattle.pfs_base.proofs.Published.SendsOn.{goes_on-fits, goes_on-more, goes_on-stopped}
use Rattle.pfs_base.proofs.Published.Printing.{line_on}
use Rattle.pfs_base.proofs.print.put_numbers.Goals as goal

pub put_entry-requires-clause-fits : goal.put_entry-requires-clause-fits
put_entry-requires-clause-fits g c =
    let on = line_on c.args.numbers.now c.loop-place.place c.loop-place-test.true in
    goes_on-fits _ _ _ c.args.sent c.loop-place.reached _ _ _ _ on c.loop-place.invariant c.requires.fits

pub returns-in_err-reached : goal.returns-in_err-reached
returns-in_err-reached g c =
    let on = line_on c.args.numbers.now c.loop-place.place c.loop-place-test.true in
    let front =
    goes_on-stopped _ _ _ _ _ c.args.sent c.loop-place.reached _ _ _ _ _ on c.loop-place.invariant
    c.in_err-reached.ensures in
    search rules

pub loop-place-preserved : goal.loop-place-preserved
loop-place-preserved g c =
    let on = line_on c.args.numbers.now c.loop-place.place c.loop-place-test.true in
    goes_on-more _ _ _ _ _ c.args.sent c.loop-place.reached _ _ _ _ _ on c.loop-place.invariant c.in_ok-reached.ensures
