use Rattle.std.proofs.Common.{◌+◌, ◌*◌}
use Rattle.pfs_batch.specs.Private.Ends.{time_at}
use Rattle.pfs_batch.proofs.RowSteps.{IsRowTo}
use Rattle.pfs_batch.proofs.rows.step_row.Given as goal

abbrev pub invariant-loop-block : goal.invariant-loop-block
invariant-loop-block l = IsRowTo l.fn.ends (time_at l.rows l.starts) (8 * l.block) l.ends l.before.values

abbrev pub invariant-loop-k : goal.invariant-loop-k
invariant-loop-k l = IsRowTo l.fn.ends (time_at l.rows l.starts) (8 * l.block + l.k) l.ends l.before.values
