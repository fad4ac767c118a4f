use Rattle.std.proofs.Common.{◌≡◌, ◌+◌}
use Rattle.pfs_insert.specs.Private.Rows.{times_in_turn}
use Rattle.pfs_insert.proofs.RowSteps.{Filled}
use Rattle.pfs_insert.proofs.rows.fill_row.Given as goal

abbrev pub invariant-loop-turn : goal.invariant-loop-turn
invariant-loop-turn g l =
    let shop = g.B.Bench.shop l.fn.bench in
    record {
      same_shop : g.B.Bench.shop l.bench ≡ shop;
      counted : g.B.Bench.counted l.bench ≡ g.B.Bench.counted l.fn.bench + l.turn;
      filled : Filled g.B.Span.Length.number shop.machines (times_in_turn shop l.job l.back) l.back l.given l.row l.turn
          l.before;
    }
