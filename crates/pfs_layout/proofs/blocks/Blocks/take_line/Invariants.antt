-- The reader after the bytes so far, which needs more.
use Rattle.pfs_layout.proofs.Words.{fields, TakenTo}
use Rattle.pfs_layout.proofs.blocks.Blocks.take_line.Given as goal

abbrev pub invariant-loop-b : goal.invariant-loop-b
invariant-loop-b l = TakenTo (fields l.fn.last l.fn.self) (fields l.line l.self) l.piece l.b-index
