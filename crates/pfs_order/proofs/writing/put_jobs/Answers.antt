use Rattle.std.proofs.Common.{rules, ◌+◌, ◌≡◌, ◌<◌, ℕ, List, length, map, take, get_or, arith}
use Rattle.std.proofs.lemmas.List.{length-map, get_or-map}
use Rattle.pfs_base.specs.Text.{spaced, entry, with_line_end}
use Rattle.pfs_base.proofs.Published.SendsOn.{GoesOn, goes_on-fits, goes_on-more, goes_on-stopped}
use Rattle.pfs_base.proofs.Published.Printing.{line_on}
use Rattle.pfs_order.proofs.writing.put_jobs.Goals as goal

abbrev numbers_of : List ℕ → List ℕ
numbers_of order = map (λ job. job + 1) order

-- the line of the jobs continues with the number of the job at a place
line_goes_on : (order : List ℕ) (place job : ℕ) → place < length order → job ≡ get_or order place 0
    → GoesOn (with_line_end (spaced (numbers_of order))) (spaced (take place (numbers_of order)))
    (entry place (job + 1)) (spaced (take (place + 1) (numbers_of order)))
line_goes_on order place job within is =
    let number : get_or (numbers_of order) place 0 ≡ job + 1 =
    rw (get_or-map (λ j. j + 1) order place 0 0 within, is) in
    rw number at (line_on (numbers_of order) place (omega (arith, length-map order (λ j. j + 1))))

pub put_entry-requires-clause-fits : goal.put_entry-requires-clause-fits
put_entry-requires-clause-fits g c =
    let on = line_goes_on c.args.order.now c.loop-place.place c.at.result
    (omega (arith, c.loop-place-test.true, c.len-place-end.ensures.value)) c.at.ensures.value in
    goes_on-fits _ _ _ c.args.sent c.loop-place.reached _ _ _ _ on c.loop-place.invariant c.requires.fits

pub returns-in_err-reached : goal.returns-in_err-reached
returns-in_err-reached g c =
    let on = line_goes_on c.args.order.now c.loop-place.place c.at.result
    (omega (arith, c.loop-place-test.true, c.len-place-end.ensures.value)) c.at.ensures.value in
    let front = goes_on-stopped _ _ _ _ _ c.args.sent c.loop-place.reached _ _ _ _ _ on c.loop-place.invariant
    c.in_err-reached.ensures in
    search rules

pub loop-place-preserved : goal.loop-place-preserved
loop-place-preserved g c =
    let on = line_goes_on c.args.order.now c.loop-place.place c.at.result
    (omega (arith, c.loop-place-test.true, c.len-place-end.ensures.value)) c.at.ensures.value in
    goes_on-more _ _ _ _ _ c.args.sent c.loop-place.reached _ _ _ _ _ on c.loop-place.invariant c.in_ok-reached.ensures
