use Rattle.std.proofs.Common.{◌+◌, ◌-◌, ◌*◌, min}
use Rattle.pfs_batch.proofs.Filled.{IsFilledTo}
use Rattle.pfs_batch.proofs.batch.firsts_of.Given as goal

abbrev pub invariant-loop-lane : goal.invariant-loop-lane
invariant-loop-lane l = IsFilledTo 8 (λ lane. (l.first + min lane (l.count - 1)) * l.len) l.lane l.firsts
