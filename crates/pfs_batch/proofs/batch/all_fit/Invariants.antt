use Rattle.std.proofs.Common.{ℕ, ◌<◌, ◌≤◌, get_or}
use Rattle.pfs_batch.proofs.batch.all_fit.Given as goal

abbrev pub invariant-loop-time : goal.invariant-loop-time
invariant-loop-time l = (at : ℕ) → at < l.time-index → get_or l.times at 0 ≤ 65535
