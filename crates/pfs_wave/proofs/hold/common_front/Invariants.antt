use Rattle.std.proofs.Common.{ℕ, ◌≡◌, ◌*◌, ◌<◌}
use Rattle.std.specs.List.{slice_index_or}
use Rattle.pfs_wave.proofs.hold.common_front.Given as goal

abbrev pub invariant-loop-eight : goal.invariant-loop-eight
invariant-loop-eight l = (row : ℕ) → row < 8 * l.eight → slice_index_or l.held row 0 ≡ slice_index_or l.seq row 0
