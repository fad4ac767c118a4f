use Rattle.std.proofs.Common.{◌≡◌, ◌≢◌, ◌≤◌, length, take, arith, refl}
use Rattle.std.specs.Prelude.{Err}
use Rattle.std.proofs.lemmas.Bool.{both_ways}
use Rattle.std.proofs.lemmas.List.{length-take-le}
use Rattle.std.proofs.lemmas.Result.{err_from_is_err_and}
use Rattle.pfs_base.specs.declared.limits.TheConstants.{LONGEST_ORDER_FILE}
use Rattle.pfs_order.specs.declared.reading.TheConstants.{ROOM}
use Rattle.pfs_order.specs.declared.fault.OrderFault.TheVariants.{TooLong, Read}
use Rattle.pfs_order.proofs.InputLemmas.{Reported, whole, long, stopped, owed, never_read}
use Rattle.pfs_order.proofs.reading.read_order.Goals as goal

pub returns-in_err-filled : goal.returns-in_err-filled
returns-in_err-filled g c =
    let p = err_from_is_err_and c.from_residual.result c.from_residual.ensures.1 in
    let is : c.from_residual.result ≡ Err Read = rw (p.1, p.2, c.in_err-filled.ensures.fault) refl in
    let known : Reported (g.R.Source.left c.args.reader.now) (g.R.Source.left c.fill.new.reader)
    c.from_residual.result =
    stopped (rw c.fill.auto.buffer at c.in_err-filled.ensures.stopped) is in
    owed _ known (λ _. c.in_err-filled.ensures.failed) (λ _. is) (λ _. c.in_err-filled.ensures.before_end)

pub returns-then-filled-gt-LONGEST_ORDER_FILE : goal.returns-then-filled-gt-LONGEST_ORDER_FILE
returns-then-filled-gt-LONGEST_ORDER_FILE g c =
    let size : length c.fill.new.buffer ≡ ROOM = c.fill.auto.buffer in
    let all = length-take-le c.in_ok-filled.filled c.fill.new.buffer c.in_ok-filled.ensures.within in
    let known : Reported (g.R.Source.left c.args.reader.now) (g.R.Source.left c.fill.new.reader) (Err TooLong) =
    long _ c.in_ok-filled.ensures.bytes (omega (arith, all, c.in_ok-filled.ensures.within)) refl in
    owed (Err TooLong) known (λ is. absurd (cc))
    (λ failed. absurd (both_ways _ c.in_ok-filled.ensures.working failed)) (λ is. absurd (cc))

pub returns : goal.returns
returns g c =
    let size : length c.fill.new.buffer ≡ ROOM = c.fill.auto.buffer in
    let all = length-take-le c.in_ok-filled.filled c.fill.new.buffer c.in_ok-filled.ensures.within in
    let few : length (take c.in_ok-filled.filled c.fill.new.buffer) ≤ LONGEST_ORDER_FILE = omega (arith, all) in
    let known : Reported (g.R.Source.left c.args.reader.now) (g.R.Source.left c.fill.new.reader) c.parse.result =
    whole _ c.in_ok-filled.ensures.bytes (c.in_ok-filled.ensures.end (omega arith)) few c.parse.ensures in
    let never : c.parse.result ≢ Err Read = never_read _ c.parse.result few c.parse.ensures in
    owed _ known (λ is. absurd (never is)) (λ failed. absurd (both_ways _ c.in_ok-filled.ensures.working failed))
    (λ is. absurd (never is))
