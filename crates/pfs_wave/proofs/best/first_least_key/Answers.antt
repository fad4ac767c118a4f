use Rattle.std.proofs.Common.{arith}
use Rattle.std.specs.List.{slice_index_or}
use Rattle.pfs_wave.proofs.LeastKey.{first_key, next_key, all_keys}
use Rattle.pfs_wave.proofs.best.first_least_key.Goals as goal

pub loop-place-init : goal.loop-place-init
loop-place-init c = first_key (λ place. slice_index_or c.args.sums.now place 0) c.key-least.result c.key-least.ensures

pub loop-place-preserved : goal.loop-place-preserved
loop-place-preserved c =
    let inside = c.loop-place-test.true in
    let few = c.requires.few in
    next_key (λ place. slice_index_or c.args.sums.now place 0) c.loop-place.place c.loop-place.least c.key.result _
    c.loop-place.invariant (omega arith) c.key.ensures c.min-least.ensures

pub returns : goal.returns
returns c =
    let some = c.requires.some in
    let end = c.loop-place.auto.place-end some in
    let outside = c.loop-place-test.false in
    rw c.from.ensures (all_keys (λ place. slice_index_or c.args.sums.now place 0) c.loop-place.invariant (omega arith))
