use Rattle.std.proofs.Common.{◌≡◌, ◌+◌, ◌*◌}
use Rattle.pfs_insert.specs.Private.Rows.{AreRows, AreSameOutside}
use Rattle.pfs_insert.proofs.rows.fill_rows.Given as goal

abbrev pub invariant-loop-count : goal.invariant-loop-count
invariant-loop-count g l =
    let shop = g.B.Bench.shop l.fn.bench in
    record {
      same_shop : g.B.Bench.shop l.bench ≡ shop;
      counted : g.B.Bench.counted l.bench ≡ g.B.Bench.counted l.fn.bench + l.count * shop.machines;
      rows : AreRows g.B.Span.Length.number shop l.seq.jobs l.rows l.back l.count;
      kept : AreSameOutside shop l.fn.rows l.rows l.back 1 shop.jobs;
    }
