use Rattle.std.proofs.Common.{◌≡◌, ◌+◌, ◌*◌, ◌≤◌, length}
use Rattle.std.specs.List.{All}
use Rattle.pfs_exact.proofs.Cells.{AreTimesTo}
use Rattle.pfs_exact.proofs.table.times_of.Given as goal

abbrev pub invariant-loop-block : goal.invariant-loop-block
invariant-loop-block l = record {
  long : length l.times.items ≡ 64 * l.blocks;
  done : All (λ time. time ≤ 65535) l.instance.shop.times → AreTimesTo l.instance.shop (64 * l.block) l.times.items;
}

abbrev pub invariant-loop-machine : goal.invariant-loop-machine
invariant-loop-machine l = record {
  long : length l.times.items ≡ 64 * l.blocks;
  done : All (λ time. time ≤ 65535) l.instance.shop.times
      → AreTimesTo l.instance.shop (64 * l.block + l.machine) l.times.items;
}
