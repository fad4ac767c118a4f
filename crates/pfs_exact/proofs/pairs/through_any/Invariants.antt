use Rattle.std.proofs.Common.{suc, ◌-◌, ◌<◌, ◌≤◌, take, drop, map, sum_by}
use Rattle.pfs_exact.specs.Private.Lags.{Lag, shorter_of}
use Rattle.pfs_exact.specs.Private.Nodes.{AreAcross, IsThrough}
use Rattle.pfs_exact.proofs.JobsByLag.{time_in}
use Rattle.pfs_exact.proofs.pairs.through_any.Given as goal

abbrev pub invariant-loop-turn : goal.invariant-loop-turn
invariant-loop-turn l =
    let shop = l.instance.shop in
    let jobs = map (λ (entry : Lag). entry.1) l.lags.items in
    record {
      done : l.done ≤ sum_by (time_in shop l.far l.across) (take l.turn jobs);
      left : l.left ≤ sum_by (shorter_of shop l.near l.far) (drop l.turn jobs);
      ahead : l.near < l.far → AreAcross shop l.near (suc (l.far - l.near)) l.across → IsThrough shop l.near l.far l.most;
      behind : l.far < l.near → AreAcross shop l.far (suc (l.near - l.far)) l.across → IsThrough shop l.far l.near l.most;
    }
