use Rattle.std.proofs.Common.{map, ◌-◌, ◌≤◌}
use Rattle.pfs_wave.specs.Private.Blending.{AreBlends, past_at}
use Rattle.pfs_wave.specs.Private.HeldRows.{rows_at}
use Rattle.pfs_wave.proofs.BlendSteps.{later_rows}
use Rattle.pfs_wave.proofs.times.blends_before.Given as goal

abbrev pub invariant-loop-earlier : goal.invariant-loop-earlier
invariant-loop-earlier g l =
    let start = l.row - 7 in
    record {
      begun : start ≤ l.earlier;
      blends : AreBlends g.T.Stored.lanes
          (past_at (later_rows (rows_at g.row.N (map g.T.Stored.lanes l.rows) l.order l.k) start) (l.earlier - start))
          l.last;
    }
