use Rattle.std.proofs.Common.{◌≡◌, map}
use Rattle.std.specs.List.{range_with_len}
use Rattle.pfs_base.specs.Paths.{greatest}
use Rattle.pfs_audit.specs.Bound.{machine_bound}
use Rattle.pfs_audit.proofs.bounds.longest_machine.Given as goal

abbrev pub invariant-loop-machine : goal.invariant-loop-machine
invariant-loop-machine l = l.most ≡ greatest (map (machine_bound l.instance.shop) (range_with_len 0 l.machine))
