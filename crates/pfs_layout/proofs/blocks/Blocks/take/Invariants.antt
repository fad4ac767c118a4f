-- The reader after the bytes so far, which needs more.
use Rattle.pfs_layout.proofs.Words.{◌-◌, ◌≤◌, length, fields, TakenTo}
use Rattle.pfs_layout.proofs.blocks.Blocks.take.Given as goal

abbrev pub invariant-loop-at : goal.invariant-loop-at
invariant-loop-at l = record {
  within : l.at ≤ length l.piece;
  taken : TakenTo (fields l.fn.last l.fn.self) (fields l.last l.self) l.piece l.at;
}

abbrev pub decreases-loop-at : goal.decreases-loop-at
decreases-loop-at l = length l.piece - l.at
