use Rattle.std.proofs.Common.{◌≤◌, vec_capacity}
use Rattle.pfs_audit.specs.Bound.{bound_of, IsLowerBound}
use Rattle.pfs_exact.proofs.pairs.bound_by_pairs.Given as goal

abbrev pub invariant-loop-first : goal.invariant-loop-first
invariant-loop-first l = record {
  low : IsLowerBound l.instance.shop l.most;
  raised : bound_of l.instance.shop ≤ l.most;
  room : l.instance.shop.jobs ≤ vec_capacity l.lags;
}
