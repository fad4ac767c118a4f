use Rattle.std.proofs.Common.{◌+◌, map, take}
use Rattle.pfs_base.specs.Sends.{SendsAll}
use Rattle.pfs_base.specs.Text.{spaced}
use Rattle.pfs_order.proofs.writing.put_jobs.Given as goal

abbrev pub invariant-loop-place : goal.invariant-loop-place
invariant-loop-place g l =
    SendsAll (g.W.Sink.written l.fn.writer) (g.W.Sink.written l.writer) (g.W.Sink.has_failed l.writer) l.fn.sent
    (spaced (take l.place (map (λ job. job + 1) l.order))) l.reached
