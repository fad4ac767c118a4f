use Rattle.std.proofs.Common.{ℕ, ◌≡◌, ◌<◌, ◌≤◌, length}
use Rattle.std.specs.List.{slice_index_or}
use Rattle.pfs_wave.proofs.hold.write_rows.Given as goal

abbrev pub invariant-loop-row : goal.invariant-loop-row
invariant-loop-row l = record {
  count : length l.order ≡ length l.fn.order;
  front : (row : ℕ) → row < l.row → slice_index_or l.order row 0 ≡ slice_index_or l.seq row l.none;
  rest : (row : ℕ) → l.to ≤ row → row < length l.order → slice_index_or l.order row 0 ≡ slice_index_or l.seq row l.none;
}
