use Rattle.std.proofs.Common.{◌≡◌, length, map, replicate}
use Rattle.pfs_wave.specs.Private.Lanes.{zeros}
use Rattle.pfs_wave.proofs.rows.zero_vectors.Given as goal

abbrev pub invariant-loop-vector : goal.invariant-loop-vector
invariant-loop-vector g l = record {
  count : length l.vectors.items ≡ l._vector;
  zeros : map g.T.Stored.lanes l.vectors.items ≡ replicate l._vector (zeros 8);
}
