use Rattle.pfs_layout.proofs.Words.{SendsAll}
use Rattle.pfs_layout.proofs.Texts.WritingLemmas.{row_begun}
use Rattle.pfs_layout.proofs.writing.put_row.Given as goal

abbrev pub invariant-loop-place : goal.invariant-loop-place
invariant-loop-place g l = SendsAll (g.W.Sink.written l.fn.writer) (g.W.Sink.written l.writer)
    (g.W.Sink.has_failed l.writer) l.fn.sent (row_begun l.layout l.instance.shop l.row l.place) l.reached
