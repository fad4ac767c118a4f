use Rattle.std.proofs.Common.{ℕ, ◌≡◌, ◌<◌, ◌≤◌, map, length}
use Rattle.pfs_wave.specs.Private.Blocks.{step_of}
use Rattle.pfs_wave.specs.Private.HeldRows.{HoldLanes, HoldOutside, column, rows_at}
use Rattle.pfs_wave.proofs.times.fill_times.Given as goal

-- the vectors so far contain the rows of the sequence; those after them are unchanged
abbrev pub invariant-loop-k : goal.invariant-loop-k
invariant-loop-k g l =
    let lanes = g.T.Stored.lanes in
    let count = g.row.N in
    let old = map lanes l.fn.times in
    let times = map lanes l.times in
    record {
      long : length l.times ≡ length l.fn.times;
      done : (j : ℕ) → j < l.k → HoldOutside (rows_at count (map lanes l.rows) l.order j) l.changed.from l.changed.to
          l.changed.end (length l.order) (column count old j)
          → HoldLanes (rows_at count (map lanes l.rows) l.order j) (length l.order) (column count times j);
      rest : (step j : ℕ) → j < count → l.k ≤ j → step_of count times step j ≡ step_of count old step j;
    }
