use Rattle.std.specs.List.{slice_index_or}
use Rattle.pfs_wave.specs.Private.Least.{IsLeastSoFar}
use Rattle.pfs_wave.proofs.best.first_least.Given as goal

abbrev pub invariant-loop-place : goal.invariant-loop-place
invariant-loop-place l = IsLeastSoFar (λ place. slice_index_or l.sums place 0) l.place l.found.place l.found.span
