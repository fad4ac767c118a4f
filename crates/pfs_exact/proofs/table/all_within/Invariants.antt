use Rattle.std.proofs.Common.{ℕ, ◌<◌, ◌≤◌, get_or}
use Rattle.pfs_exact.proofs.table.all_within.Given as goal

abbrev pub invariant-loop-time : goal.invariant-loop-time
invariant-loop-time l = (at : ℕ) → at < l.time-index → get_or l.times at 0 ≤ 65535
