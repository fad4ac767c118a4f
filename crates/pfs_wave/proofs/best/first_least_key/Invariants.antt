use Rattle.std.specs.List.{slice_index_or}
use Rattle.pfs_wave.proofs.LeastKey.{IsLeastKey}
use Rattle.pfs_wave.proofs.best.first_least_key.Given as goal

abbrev pub invariant-loop-place : goal.invariant-loop-place
invariant-loop-place l = IsLeastKey (λ place. slice_index_or l.sums place 0) l.place l.least
