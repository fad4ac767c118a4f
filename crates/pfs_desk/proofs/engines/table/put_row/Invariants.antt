use Rattle.std.proofs.Common.{◌+◌, ◌*◌, ◌≤◌}
use Rattle.pfs_base.specs.Sends.{SendsAll}
use Rattle.pfs_desk.proofs.TableLemmas.{row_to}
use Rattle.pfs_desk.proofs.engines.table.put_row.Given as goal

abbrev pub invariant-loop-machine : goal.invariant-loop-machine
invariant-loop-machine g l = record {
  sends : SendsAll (g.W.Sink.written l.fn.writer) (g.W.Sink.written l.writer) (g.W.Sink.has_failed l.writer) l.fn.start
      (row_to l.table l.row l.machine) l.sent;
  short : l.sent ≤ l.fn.start + 40 + 82 * l.machine;
}
