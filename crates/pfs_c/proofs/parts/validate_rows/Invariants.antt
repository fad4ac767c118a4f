use Rattle.std.proofs.Common.{◌≡◌, ℕ, ◌<◌, None}
use Rattle.pfs_batch.specs.SequenceLists.{sequence_at}
use Rattle.pfs_c.specs.Parts.{jobs_of}
use Rattle.pfs_c.specs.Validation.{jobs_fault}
use Rattle.pfs_c.proofs.parts.validate_rows.Given as goal

abbrev pub invariant-loop-index : goal.invariant-loop-index
invariant-loop-index l =
    (k : ℕ) → k < l.index → jobs_fault l.jobs (jobs_of (sequence_at l.jobs l.rows k)) ≡ None
