use Rattle.std.proofs.Common.{◌≡◌, ◌+◌, ◌*◌, ◌≤◌, length, vec_capacity}
use Rattle.pfs_wave.proofs.RowCells.{AreRowsSoFar}
use Rattle.pfs_wave.proofs.rows.shop_rows.Given as goal

abbrev pub invariant-loop-job : goal.invariant-loop-job
invariant-loop-job g l = record {
  room : l.steps * l.count ≤ vec_capacity l.rows;
  long : length l.rows.items ≡ l.job * l.count;
  rows : AreRowsSoFar g.T.Stored.lanes l.instance.shop l.count l.rows.items;
}

abbrev pub invariant-loop-k : goal.invariant-loop-k
invariant-loop-k g l = record {
  room : l.steps * l.count ≤ vec_capacity l.rows;
  long : length l.rows.items ≡ l.job * l.count + l.k;
  rows : AreRowsSoFar g.T.Stored.lanes l.instance.shop l.count l.rows.items;
}
