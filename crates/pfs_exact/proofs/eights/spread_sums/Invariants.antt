use Rattle.std.proofs.Common.{◌≡◌, ℕ, ◌+◌, length, get_or}
use Rattle.pfs_exact.specs.Private.Blocks.{IsAtMost}
use Rattle.pfs_exact.proofs.eights.spread_sums.Given as goal

abbrev pub invariant-loop-machine : goal.invariant-loop-machine
invariant-loop-machine l = record {
  long : length l.lanes ≡ length l.fn.lanes;
  most : (sums : ℕ → ℕ) → IsAtMost l.machines sums l.others
      → IsAtMost l.machine (λ machine. get_or l.numbers machine 0 + sums machine) l.lanes;
}
