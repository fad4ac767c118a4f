use Rattle.std.proofs.Common.{◌≡◌, ◌-◌, ◌≤◌, false, length, take}
use Rattle.std.specs.Io.KnownBytes.{Consumes}
use Rattle.pfs_order.proofs.reading.fill.Given as goal

abbrev pub invariant-loop-filled : goal.invariant-loop-filled
invariant-loop-filled g l = record {
  within : l.filled ≤ length l.buffer;
  working : g.R.Source.has_failed l.reader ≡ false;
  no_end : g.R.Source.has_ended l.reader ≡ g.R.Source.has_ended l.fn.reader;
  bytes : Consumes (g.R.Source.left l.fn.reader) (g.R.Source.left l.reader) (take l.filled l.buffer);
}

abbrev pub decreases-loop-filled : goal.decreases-loop-filled
decreases-loop-filled g l = length l.buffer - l.filled
