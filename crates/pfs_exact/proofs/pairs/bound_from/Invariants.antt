use Rattle.std.proofs.Common.{◌-◌, ◌≤◌, vec_capacity}
use Rattle.pfs_audit.specs.Bound.{IsLowerBound}
use Rattle.pfs_exact.specs.Private.Nodes.{AreAcross}
use Rattle.pfs_exact.proofs.pairs.bound_from.Given as goal

abbrev pub invariant-loop-second : goal.invariant-loop-second
invariant-loop-second l = record {
  across : AreAcross l.instance.shop l.first (l.second - l.first) l.across;
  most : IsLowerBound l.instance.shop l.most;
  room : vec_capacity l.fn.lags ≤ vec_capacity l.lags;
}
