use Rattle.std.proofs.Common.{◌≡◌, length}
use Rattle.pfs_search.proofs.insertions.clear.Given as goal

abbrev pub invariant-loop-place : goal.invariant-loop-place
invariant-loop-place l = record {
  size : l.seq.size ≡ l.fn.seq.size;
  jobs : length l.seq.jobs ≡ l.place;
}
