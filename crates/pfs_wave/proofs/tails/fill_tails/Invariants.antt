use Rattle.std.proofs.Common.{ℕ, ◌≡◌, ◌+◌, ◌*◌, ◌<◌, length, map}
use Rattle.pfs_wave.specs.Private.Blocks.{Cells, HoldCells}
use Rattle.pfs_wave.specs.Private.Recurrences.{AreTails}
use Rattle.pfs_wave.proofs.TailCells.{AreTailsFilled}
use Rattle.pfs_wave.proofs.tails.fill_tails.Given as goal

abbrev pub invariant-loop-left : goal.invariant-loop-left
invariant-loop-left g l =
    let lanes = g.V.Band.lanes in
    let kept = g.V.Times.Stored.lanes in
    let count = g.row.N in
    let Holds = g.V.Band.Holds in
    record {
      long : length l.tails ≡ length l.fn.tails;
      now_long : length l.now ≡ count;
      cells : (time tail : Cells) → AreTails count time tail
          → ((row lane k : ℕ) → lane < 8 → k < count → row + lane ≡ l.steps → tail row (lane * count + k) ≡ 0)
          → HoldCells Holds count l.steps time (map kept l.times)
          → AreTailsFilled Holds lanes count l.steps tail l.tails l.now (lanes l.first) l.left;
    }
