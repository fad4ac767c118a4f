-- Each piece moves the reader forward, and a reader that needs more bytes has read no more than the limit.
use Rattle.pfs_layout.proofs.Words.{◌≡◌, ◌-◌, false, LONGEST_INPUT}
use Rattle.pfs_layout.proofs.Reading.SourceLemmas.{Reading}
use Rattle.pfs_layout.proofs.reader.read_block.Given as goal

abbrev pub invariant-pieces : goal.invariant-pieces
invariant-pieces g l = record {
  working : g.R.Source.has_failed l.reader ≡ false;
  no_end : g.R.Source.has_ended l.reader ≡ g.R.Source.has_ended l.fn.reader;
  reading : Reading l.fn.layout l.fn.block (g.R.Source.left l.fn.reader) (g.R.Source.left l.reader) l.taker;
}

abbrev pub decreases-pieces : goal.decreases-pieces
decreases-pieces g l = LONGEST_INPUT - l.taker.digits.offset
