use Rattle.std.proofs.Common.{◌≡◌, ℕ, ◌+◌, ◌*◌, ◌<◌, ◌≤◌, get_or}
use Rattle.pfs_base.specs.FlowShop.{time_of}
use Rattle.pfs_exact.proofs.eights.least_on.Given as goal

abbrev pub invariant-loop-block : goal.invariant-loop-block
invariant-loop-block l = (b lane : ℕ) → b < l.block → lane < 8 → 8 * b + lane < l.instance.shop.jobs
    → get_or l.shut (8 * b + lane) 0 ≡ 0
    → get_or l.least.values lane 0 ≤ time_of l.instance.shop (8 * b + lane) l.machine
