use Rattle.std.proofs.Common.{take}
use Rattle.pfs_base.specs.Text.{spaced}
use Rattle.pfs_base.specs.Sends.{SendsAll}
use Rattle.pfs_base.proofs.print.put_numbers.Given as goal

abbrev pub invariant-loop-place : goal.invariant-loop-place
invariant-loop-place g l =
    SendsAll (g.W.Sink.written l.fn.writer) (g.W.Sink.written l.writer) (g.W.Sink.has_failed l.writer) l.fn.sent
    (spaced (take l.place l.numbers)) l.reached
