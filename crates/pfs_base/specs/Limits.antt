-- The limits of what is accepted.
use Rattle.std.specs.Prelude.{ℕ}
use Rattle.pfs_base.specs.declared.limits.TheConstants.{MOST_JOBS, MOST_MACHINES, LONGEST_TIME}
use Rattle.pfs_base.specs.declared.limits.TheConstants.{GREATEST_NOTE, LONGEST_INPUT}

-- the greatest numbers of jobs and machines, the longest time, the greatest note, and the greatest number of
-- bytes of an input
pub record Limits : Type 0 where
  pub jobs : ℕ
  pub machines : ℕ
  pub time : ℕ
  pub note : ℕ
  pub input : ℕ

-- the limits of this program, which are the constants of `limits.rt`
abbrev pub limits : Limits
limits = record {
  jobs = MOST_JOBS;
  machines = MOST_MACHINES;
  time = LONGEST_TIME;
  note = GREATEST_NOTE;
  input = LONGEST_INPUT;
}
