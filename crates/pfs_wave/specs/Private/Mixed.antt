-- Insertions in lanes of 16 bits where the makespans are known to fit in them, and else of 32.
use Rattle.std.specs.Prelude.{ℕ, ◌≡◌, ◌+◌, ◌≤◌, List, length, insert, nat_eq, nat_le, if◌then◌else◌}
use Rattle.pfs_base.specs.FlowShop.{FlowShop}
use Rattle.pfs_base.specs.Paths.{makespan}
use Rattle.pfs_wave.specs.Private.Blocks.{FitsLanes, HasShop}
use Rattle.pfs_wave.specs.declared.mixed.Known.{Known}
use Rattle.pfs_wave.specs.declared.mixed.Mixed.{Mixed}

-- a sequence of a shop's jobs, and a bound on its makespan
pub record IsKnown (shop : FlowShop) (known : Known) : Type 0 where
  pub size : known.seq.size ≡ shop.jobs
  pub span : makespan shop known.seq.jobs ≤ known.span

-- these jobs with a job at a place, where the makespan is `span`, in place of a known sequence
abbrev pub known_with : Known → List ℕ → ℕ → ℕ → ℕ → Known
known_with known jobs job place span =
    record { seq = record known.seq { jobs = insert jobs place job }; span = span }

-- the tables of a shop's insertions in both sizes of lanes, the last sequence that is known, and the order that is kept
pub record IsMixed (shop : FlowShop) (mixed : Mixed) : Type 0 where
  pub narrow : HasShop shop mixed.narrow
  pub wide : FitsLanes shop 4294967295 mixed.wide
  pub last : IsKnown shop mixed.last
  pub kept : IsKnown shop mixed.kept

-- the tables after a job was inserted at its best place: the sequence with the job is the last known one, and it is
-- kept if it has all jobs and is not longer than the one that was kept
abbrev pub after_best : Mixed → List ℕ → ℕ → ℕ → ℕ → Mixed
after_best mixed jobs job place span =
    record mixed {
      last = known_with mixed.last jobs job place span;
      kept = if nat_eq (length jobs + 1) mixed.last.seq.size
          then (if nat_le span mixed.kept.span then known_with mixed.kept jobs job place span else mixed.kept)
          else mixed.kept;
    }
