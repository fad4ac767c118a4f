use Rattle.std.proofs.Common.{◌≡◌, ℕ, ◌+◌, ◌<◌, length, get_or}
use Rattle.pfs_batch.specs.Private.Ends.{IsZeroFrom}
use Rattle.pfs_batch.proofs.batch.rows_of.Given as goal

abbrev pub invariant-loop-at : goal.invariant-loop-at
invariant-loop-at l = record {
  long : length l.rows.items ≡ length l.times + l.rest;
  done : (at : ℕ) → at < l.at → get_or l.rows.items at 0 ≡ get_or l.times at 0;
  rest : IsZeroFrom l.at l.rows.items;
}
