use Rattle.std.proofs.Common.{◌≡◌, ℕ, ◌<◌, get_or}
use Rattle.pfs_batch.specs.SequenceLists.{sequence_at}
use Rattle.pfs_exact.specs.declared.parts.Part.{Part}
use Rattle.pfs_c.specs.Private.PartRows.{IsRow}
use Rattle.pfs_c.proofs.parts.write_parts.Given as goal

abbrev pub invariant-loop-index : goal.invariant-loop-index
invariant-loop-index l = record {
  rows : (k : ℕ) (d : Part) → k < l.index → IsRow l.jobs (get_or l.parts k d) (sequence_at l.jobs l.rows k);
  bounds : (k : ℕ) (d : Part) → k < l.index → get_or l.bounds k 0 ≡ (get_or l.parts k d).bound;
}
