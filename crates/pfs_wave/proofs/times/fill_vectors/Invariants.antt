use Rattle.std.proofs.Common.{map, ◌+◌, ◌*◌}
use Rattle.pfs_wave.specs.Private.SkewedBand.{IsFilled}
use Rattle.pfs_wave.specs.Private.Blending.{AreBlends, past_at}
use Rattle.pfs_wave.specs.Private.HeldRows.{rows_at}
use Rattle.pfs_wave.proofs.times.fill_vectors.Given as goal

abbrev pub invariant-loop-turn : goal.invariant-loop-turn
invariant-loop-turn g l =
    let lanes = g.T.Stored.lanes in
    let rows = rows_at g.row.N (map lanes l.rows) l.order l.k in
    let row = l.from + 4 * l.turn in
    record {
      filled : IsFilled g.row.N l.k rows l.from row (map lanes l.fn.times) (map lanes l.times);
      blends : AreBlends lanes (past_at rows row) l.last;
    }
