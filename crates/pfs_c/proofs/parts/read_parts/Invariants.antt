use Rattle.std.proofs.Common.{◌≡◌, length, All}
use Rattle.pfs_exact.specs.Parts.{IsPart}
use Rattle.pfs_c.specs.Private.PartRows.{AreRows}
use Rattle.pfs_c.proofs.parts.read_parts.Given as goal

abbrev pub invariant-loop-index : goal.invariant-loop-index
invariant-loop-index l = record {
  count : length l.parts.items ≡ l.index;
  parts : All (IsPart l.instance.shop) l.parts.items;
  rows : AreRows l.instance.shop.jobs l.parts.items l.rows;
}
