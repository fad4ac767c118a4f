use Rattle.std.proofs.Common.{◌≡◌, ◌*◌, ◌≤◌, sum, take}
use Rattle.pfs_base.specs.declared.limits.TheConstants.{LONGEST_TIME}
use Rattle.pfs_base.proofs.metered.MeteredShop.total.Given as goal

abbrev pub invariant-loop-time : goal.invariant-loop-time
invariant-loop-time l = record {
  known : l.total ≡ sum (take l.time-index l.time-items);
  small : l.total ≤ LONGEST_TIME * l.time-index;
}
