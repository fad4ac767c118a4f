use Rattle.std.proofs.Common.{◌≡◌, drop, length}
use Rattle.pfs_order.specs.Private.Reading.{take_jobs, none_of}
use Rattle.pfs_order.proofs.reading.order_of.Given as goal

abbrev pub invariant-loop-number : goal.invariant-loop-number
invariant-loop-number l = record {
  taken : take_jobs l.numbers (none_of (length l.numbers)) ≡ take_jobs (drop l.number-index l.numbers) l.seq;
  placed : length l.seq.jobs ≡ l.number-index;
  sized : l.seq.size ≡ length l.numbers;
}
