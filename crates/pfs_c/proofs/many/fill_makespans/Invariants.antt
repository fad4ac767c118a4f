use Rattle.std.proofs.Common.{◌≡◌, ℕ, ◌+◌, ◌*◌, ◌<◌, length, get_or, IfSome}
use Rattle.pfs_base.specs.Paths.{makespan}
use Rattle.pfs_batch.specs.SequenceLists.{sequence_at}
use Rattle.pfs_c.proofs.many.fill_makespans.Given as goal

abbrev pub invariant-loop-group : goal.invariant-loop-group
invariant-loop-group l = record {
  long : length l.makespans ≡ length l.fn.makespans;
  done : (k : ℕ) → k < 8 * l.group → k < length l.makespans
      → get_or l.makespans k 0 ≡ makespan l.instance.shop (sequence_at l.long l.sequences k);
  batch : IfSome l.batch (λ batch. batch ≡ l.instance.shop);
}

abbrev pub invariant-loop-lane : goal.invariant-loop-lane
invariant-loop-lane l = record {
  long : length l.makespans ≡ length l.fn.makespans;
  done : (k : ℕ) → k < l.first + l.lane
      → get_or l.makespans k 0 ≡ makespan l.instance.shop (sequence_at l.long l.sequences k);
}
