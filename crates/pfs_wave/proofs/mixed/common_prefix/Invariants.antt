use Rattle.std.proofs.Common.{ℕ, ◌≡◌, ◌<◌}
use Rattle.std.specs.List.{slice_index_or}
use Rattle.pfs_wave.proofs.mixed.common_prefix.Given as goal

abbrev pub invariant-loop-row : goal.invariant-loop-row
invariant-loop-row l = (row : ℕ) → row < l.row → slice_index_or l.a row 0 ≡ slice_index_or l.b row 0
