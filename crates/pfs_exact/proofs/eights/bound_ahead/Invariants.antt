use Rattle.std.proofs.Common.{ℕ, ◌+◌, ◌*◌, ◌<◌, List, get_or}
use Rattle.pfs_exact.specs.Private.Ahead.{AreAhead}
use Rattle.pfs_exact.proofs.LaneBounds.{IsAhead}
use Rattle.pfs_exact.proofs.eights.bound_ahead.Given as goal

abbrev pub invariant-loop-machine : goal.invariant-loop-machine
invariant-loop-machine l = (front back : List ℕ) → AreAhead l.instance.shop front back l.starts l.least l.sums
    → (lane : ℕ) → lane < 8 → 8 * l.block + lane < l.instance.shop.jobs
    → IsAhead l.instance.shop front (8 * l.block + lane) back l.machine (get_or l.before.values lane 0)
    (get_or l.next.values lane 0) (get_or l.most.values lane 0)
