use Rattle.std.proofs.Common.{◌≡◌, ◌+◌, ◌≤◌, ◌++◌, length, drop, vec_len, vec_capacity}
use Rattle.pfs_search.specs.Greedy.{jobs_left, jobs_taken}
use Rattle.pfs_order.specs.Sequence.{IsSequence}
use Rattle.pfs_search.proofs.greedy.take_jobs.Given as goal

-- the jobs removed so far, and those that the remaining words remove
abbrev pub invariant-loop-word : goal.invariant-loop-word
invariant-loop-word l = record {
  same_size : l.seq.size ≡ l.order.size;
  jobs : length l.seq.jobs + l.word-index ≡ length l.order.jobs;
  left : jobs_left l.seq.jobs (drop l.word-index l.words) ≡ jobs_left l.order.jobs l.words;
  taken : l.taken.items ++ jobs_taken l.seq.jobs (drop l.word-index l.words) ≡ jobs_taken l.order.jobs l.words;
  together : IsSequence l.order.size (l.taken.items ++ l.seq.jobs);
  count : vec_len l.taken ≡ l.word-index;
  capacity : vec_capacity l.fn.taken ≤ vec_capacity l.taken;
}
