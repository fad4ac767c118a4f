use Rattle.std.proofs.Common.{◌+◌, ◌*◌, get_or}
use Rattle.pfs_batch.proofs.Filled.{IsFilledTo}
use Rattle.pfs_batch.proofs.rows.starts_of.Given as goal

abbrev pub invariant-loop-lane : goal.invariant-loop-lane
invariant-loop-lane l =
    IsFilledTo 8 (λ lane. get_or l.sequences (get_or l.firsts lane 0 + l.place) 0 * l.machines) l.lane l.starts
