use Rattle.std.proofs.Common.{◌↔◌, ◌≤◌, length}
use Rattle.pfs_wave.specs.Parts.{IsPart}
use Rattle.pfs_wave.proofs.mixed.is_part.Given as goal

abbrev pub invariant-loop-part : goal.invariant-loop-part
invariant-loop-part l = record {
  fewer : length l.part ≤ length l.fn.part;
  less : length l.whole ≤ length l.fn.whole;
  same : IsPart l.part l.whole ↔ IsPart l.fn.part l.fn.whole;
}

abbrev pub decreases-loop-part : goal.decreases-loop-part
decreases-loop-part l = length l.whole
