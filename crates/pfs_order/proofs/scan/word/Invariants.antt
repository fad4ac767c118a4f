use Rattle.std.proofs.Common.{◌≡◌, ◌≤◌, drop, length}
use Rattle.pfs_order.specs.Private.Reading.{word_at}
use Rattle.pfs_order.proofs.scan.word.Given as goal

abbrev pub invariant-loop-byte : goal.invariant-loop-byte
invariant-loop-byte l = record {
  within : l.next ≤ length l.text;
  read : word_at l.word (drop l.at l.text) ≡ word_at (drop l.byte-index l.word) (drop l.next l.text);
}
