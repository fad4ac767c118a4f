use Rattle.std.proofs.Common.{◌≡◌, ◌-◌, length, get_or}
use Rattle.pfs_exact.specs.Private.Blocks.{IsAtMost}
use Rattle.pfs_exact.proofs.eights.spread_back.Given as goal

abbrev pub invariant-loop-machine : goal.invariant-loop-machine
invariant-loop-machine l = record {
  long : length l.lanes ≡ length l.fn.lanes;
  most : IsAtMost l.machine (λ machine. get_or l.numbers (l.machines - 1 - machine) 0) l.lanes;
}
