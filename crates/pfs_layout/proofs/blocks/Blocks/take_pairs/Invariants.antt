-- The reader after the bytes so far, which needs more: the body is a local variable. The last number is no longer than
-- a time may be.
use Rattle.pfs_layout.proofs.Words.{◌≡◌, ◌≤◌, false, LONGEST_TIME, fields, TakenTo}
use Rattle.pfs_layout.specs.declared.blocks.Phase.TheVariants as phases
use Rattle.pfs_layout.proofs.blocks.Blocks.take_pairs.Given as goal

abbrev pub invariant-loop-byte : goal.invariant-loop-byte
invariant-loop-byte l = record {
  taken : TakenTo (fields l.fn.last l.fn.self) (fields l.line (record l.self { body = l.body })) l.piece l.byte-index;
  phase : l.self.phase ≡ phases.Body;
  plain : l.line.kinds.has_word ≡ false;
  short : l.line.digits.value ≤ LONGEST_TIME;
}
