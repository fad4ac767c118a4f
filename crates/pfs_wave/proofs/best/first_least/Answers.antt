use Rattle.std.proofs.Common.{ℕ}
use Rattle.std.specs.List.{slice_index_or}
use Rattle.pfs_wave.proofs.LeastKey.{lower, kept}
use Rattle.pfs_wave.proofs.best.first_least.Goals as goal
use Rattle.pfs_wave.proofs.best.first_least.Goals.{then-sums-place, else-sums-place}

pub loop-place-preserved : goal.loop-place-preserved
loop-place-preserved c =
    let value = λ (place : ℕ). slice_index_or c.args.sums.now place 0 in
    let at = c.loop-place in
    elim c.if-sums-place.branch [
      | then-sums-place w ↦ rw w.found-is (lower value at.place at.found.place at.found.span at.invariant w.if-sums-place.true)
      | else-sums-place w ↦ rw w.found-is (kept value at.place at.found.place at.found.span at.invariant w.if-sums-place.false)
    ]
