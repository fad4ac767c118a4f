use Rattle.std.proofs.Common.{◌≡◌, ◌≤◌, length, take, vec_capacity}
use Rattle.pfs_audit.proofs.timetable.copy_of.Given as goal

abbrev pub invariant-loop-row : goal.invariant-loop-row
invariant-loop-row l = record {
  copied : l.jobs.items ≡ take l.row l.order;
  room : length l.order ≤ vec_capacity l.jobs;
}
