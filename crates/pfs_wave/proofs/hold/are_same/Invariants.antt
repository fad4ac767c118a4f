use Rattle.std.proofs.Common.{◌≡◌, ℕ, ◌+◌, ◌<◌, true}
use Rattle.std.specs.List.{slice_index_or}
use Rattle.pfs_wave.proofs.hold.are_same.Given as goal

abbrev pub invariant-loop-row : goal.invariant-loop-row
invariant-loop-row l = l.are_same ≡ true → (row : ℕ) → row < l.row
    → slice_index_or l.held (l.a + row) 0 ≡ slice_index_or l.seq (l.b + row) 0
