use Rattle.std.proofs.Common.{◌≡◌, ◌+◌, ◌*◌, ◌<◌, length}
use Rattle.pfs_insert.specs.Insertion.{makespan_with}
use Rattle.pfs_insert.specs.Private.BestSoFar.{IsBest}
use Rattle.pfs_insert.proofs.afresh.AfreshInserter.best.Given as goal

abbrev pub invariant-loop-place : goal.invariant-loop-place
invariant-loop-place g l =
    let shop = g.B.Bench.shop l.fn.bench in
    let value = makespan_with shop l.seq.jobs l.job in
    record {
      same_shop : g.B.Bench.shop l.bench ≡ shop;
      own_jobs : l.self.seq.size ≡ l.fn.self.seq.size;
      own_machines : l.self.machines ≡ l.fn.self.machines;
      counted : g.B.Bench.counted l.bench
          ≡ g.B.Bench.counted l.fn.bench + l.place * ((length l.seq.jobs + 1) * shop.machines);
      best : 0 < l.place → IsBest g.B.Span.Length.number value l.place l.best.place l.best.span;
    }
