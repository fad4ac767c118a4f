use Rattle.std.proofs.Common.{◌≡◌, ◌+◌, ◌*◌, ◌<◌, length}
use Rattle.pfs_insert.specs.Insertion.{makespan_with}
use Rattle.pfs_insert.specs.Private.BestSoFar.{IsBest}
use Rattle.pfs_insert.proofs.heads_tails.best_in_table.Given as goal

abbrev pub invariant-loop-place : goal.invariant-loop-place
invariant-loop-place g l =
    let shop = g.B.Bench.shop l.fn.bench in
    record {
      same_shop : g.B.Bench.shop l.bench ≡ shop;
      counted : g.B.Bench.counted l.bench
          ≡ g.B.Bench.counted l.fn.bench + (2 * length l.seq.jobs + 2 * l.place) * shop.machines;
      best : 0 < l.place → IsBest g.B.Span.Length.number (makespan_with shop l.seq.jobs l.job) l.place l.best.place
          l.best.span;
    }
