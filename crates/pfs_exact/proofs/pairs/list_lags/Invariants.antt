use Rattle.std.proofs.Common.{◌≡◌, ◌≤◌, map, sum_by, vec_capacity, vec_len}
use Rattle.std.specs.List.{All}
use Rattle.pfs_order.specs.Sequence.{all_jobs}
use Rattle.pfs_exact.specs.Private.Lags.{Lag, lag_of, shorter_of}
use Rattle.pfs_exact.proofs.pairs.list_lags.Given as goal

abbrev pub invariant-loop-job : goal.invariant-loop-job
invariant-loop-job l = record {
  jobs : map (λ (entry : Lag). entry.1) l.lags.items ≡ all_jobs l.job;
  each : All (λ (entry : Lag). entry.0.0 ≡ lag_of l.instance.shop l.far l.across entry.1) l.lags.items;
  sum : l.sum ≤ sum_by (shorter_of l.instance.shop l.near l.far) (all_jobs l.job);
  count : vec_len l.lags ≡ l.job;
  room : vec_capacity l.fn.lags ≤ vec_capacity l.lags;
}
