use Rattle.std.proofs.Common.{length}
use Rattle.pfs_batch.proofs.Filled.{IsRowFilledTo}
use Rattle.pfs_batch.proofs.rows.clear.Given as goal

abbrev pub invariant-loop-machine : goal.invariant-loop-machine
invariant-loop-machine l = IsRowFilledTo (length l.fn.ends) (λ machine lane. 0) l.machine l.ends
