use Rattle.std.proofs.Common.{◌≡◌, take}
use Rattle.pfs_base.specs.Paths.{greatest}
use Rattle.pfs_wave.proofs.tables.longest_time.Given as goal

abbrev pub invariant-loop-time : goal.invariant-loop-time
invariant-loop-time l = l.longest ≡ greatest (take l.time-index l.time-items)
