use Rattle.std.proofs.Common.{ℕ, ◌+◌, ◌*◌, ◌<◌, List, get_or}
use Rattle.pfs_exact.specs.Private.Ahead.{AreBehind}
use Rattle.pfs_exact.proofs.LaneBounds.{IsBehind}
use Rattle.pfs_exact.proofs.eights.bound_behind.Given as goal

abbrev pub invariant-loop-turn : goal.invariant-loop-turn
invariant-loop-turn l = (front back : List ℕ) → AreBehind l.instance.shop front back l.rests l.least l.sums
    → (lane : ℕ) → lane < 8 → 8 * l.block + lane < l.instance.shop.jobs
    → IsBehind l.instance.shop front (8 * l.block + lane) back l.turn (get_or l.after.values lane 0)
    (get_or l.last.values lane 0) (get_or l.most.values lane 0)
