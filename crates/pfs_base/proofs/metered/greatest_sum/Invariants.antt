use Rattle.std.proofs.Common.{◌≡◌, ◌+◌, ◌-◌, ◌%◌, length}
use Rattle.pfs_base.proofs.Sums.{lanes_at, most_to}
use Rattle.pfs_base.proofs.metered.greatest_sum.Given as goal

abbrev pub invariant-loop-chunk : goal.invariant-loop-chunk
invariant-loop-chunk l = record {
  lanes_are : l.lanes ≡ lanes_at l.a l.b l.chunk;
}

abbrev pub invariant-loop-left : goal.invariant-loop-left
invariant-loop-left l = record {
  most_is : l.most ≡ most_to l.a l.b (length l.a - length l.a % 4 + l.left);
}
