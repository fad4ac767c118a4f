use Rattle.std.proofs.Common.{ℕ, ◌≡◌, length, map}
use Rattle.pfs_wave.specs.Private.Blocks.{AreTimes, HoldCells, IsRow, vectors_of}
use Rattle.pfs_wave.specs.Private.Recurrences.{AreTables, TablesOfCells}
use Rattle.pfs_wave.proofs.SumCells.{AreSumsFilled}
use Rattle.pfs_wave.proofs.sums.fill_sums.Given as goal

abbrev pub invariant-loop-step : goal.invariant-loop-step
invariant-loop-step g l =
    let lanes = g.V.Band.lanes in
    let kept = g.V.Times.Stored.lanes in
    let count = g.row.N in
    let Holds = g.V.Band.Holds in
    record {
      heads_long : length l.heads ≡ count;
      sums_long : length l.sums ≡ length l.fn.sums;
      cells : (t : TablesOfCells) (rows : ℕ) → AreTables rows t
          → AreTimes Holds count l.steps t.time (map kept l.times)
          → HoldCells Holds count l.steps t.tail (map lanes l.tails)
          → IsRow count t.job (vectors_of (map kept l.fn.job))
          → AreSumsFilled Holds count rows l.step t (vectors_of (map lanes l.heads)) (lanes l.carry.0)
          (lanes l.carry.1.0)
          (map g.V.Band.number l.sums);
    }
