use Rattle.pfs_layout.proofs.Words.{SendsAll}
use Rattle.pfs_layout.proofs.Texts.WritingLemmas.{rows_begun}
use Rattle.pfs_layout.proofs.writing.put_rows.Given as goal

abbrev pub invariant-loop-row : goal.invariant-loop-row
invariant-loop-row g l = SendsAll (g.W.Sink.written l.fn.writer) (g.W.Sink.written l.writer)
    (g.W.Sink.has_failed l.writer) l.fn.sent (rows_begun l.layout l.instance.shop l.row) l.reached
