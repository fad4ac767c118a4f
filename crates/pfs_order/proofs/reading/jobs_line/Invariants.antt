use Rattle.std.proofs.Common.{◌≡◌, ◌≤◌, ◌-◌, drop, take, length}
use Rattle.pfs_order.specs.Private.Reading.{jobs_at}
use Rattle.pfs_order.proofs.CodeLemmas.{with_front}
use Rattle.pfs_order.proofs.reading.jobs_line.Given as goal

abbrev pub invariant-loop-place : goal.invariant-loop-place
invariant-loop-place l = record {
  within : l.at ≤ length l.text;
  read : jobs_at l.head.jobs (drop l.head.end l.text)
      ≡ with_front (take l.place l.numbers) (jobs_at (l.head.jobs - l.place) (drop l.at l.text));
}
