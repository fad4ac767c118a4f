use Rattle.std.proofs.Common.{◌+◌, ◌*◌, ◌≤◌}
use Rattle.pfs_base.specs.Sends.{SendsAll}
use Rattle.pfs_base.specs.declared.limits.TheConstants.{MOST_MACHINES}
use Rattle.pfs_desk.proofs.TableLemmas.{table_to}
use Rattle.pfs_desk.proofs.engines.table.put_table.Given as goal

abbrev pub invariant-loop-row : goal.invariant-loop-row
invariant-loop-row g l = record {
  sends : SendsAll (g.W.Sink.written l.fn.writer) (g.W.Sink.written l.writer) (g.W.Sink.has_failed l.writer) 0
      (table_to l.table l.row) l.sent;
  short : l.sent ≤ 200 + (82 * MOST_MACHINES + 41) * l.row;
}
