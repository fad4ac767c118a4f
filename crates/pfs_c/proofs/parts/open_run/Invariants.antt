use Rattle.std.proofs.Common.{◌≡◌, ℕ, ◌-◌, ◌<◌, ◌≤◌, ◌++◌, length, take, drop, get_or}
use Rattle.pfs_c.specs.Parts.{after_open, jobs_of}
use Rattle.pfs_c.specs.declared.parts.TheConstants.{PFS_OPEN}
use Rattle.pfs_c.proofs.parts.open_run.Given as goal

abbrev pub invariant-loop-first : goal.invariant-loop-first
invariant-loop-first l = record {
  high : l.first ≤ length l.row;
  jobs : jobs_of l.row ≡ take l.first l.row ++ jobs_of (drop l.first l.row);
}

abbrev pub decreases-loop-first : goal.decreases-loop-first
decreases-loop-first l = length l.row - l.first

abbrev pub invariant-loop-last : goal.invariant-loop-last
invariant-loop-last l = record {
  low : l.first ≤ l.last;
  high : l.last ≤ length l.row;
  run : (place : ℕ) → l.first ≤ place → place < l.last → get_or l.row place 0 ≡ PFS_OPEN;
  jobs : jobs_of l.row ≡ take l.first l.row ++ after_open (drop l.last l.row);
}

abbrev pub decreases-loop-last : goal.decreases-loop-last
decreases-loop-last l = length l.row - l.last
