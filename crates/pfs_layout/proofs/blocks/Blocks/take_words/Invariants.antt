-- The reader after the bytes so far, which needs more. The line has a word byte, and no digit.
use Rattle.pfs_layout.proofs.Words.{◌≡◌, true, false, None, fields, open_number, TakenTo}
use Rattle.pfs_layout.proofs.blocks.Blocks.take_words.Given as goal

abbrev pub invariant-loop-byte : goal.invariant-loop-byte
invariant-loop-byte l = record {
  taken : TakenTo (fields l.fn.last l.self) (fields l.line l.self) l.piece l.byte-index;
  empty : open_number l.line.digits ≡ None;
  word : l.line.kinds.has_word ≡ true;
  digit : l.line.kinds.has_digit ≡ false;
}
