use Rattle.std.proofs.Common.{◌≡◌, ◌+◌, ◌≤◌, ◌++◌, true, length, take, drop, vec_capacity}
use Rattle.std.specs.List.{All}
use Rattle.pfs_order.specs.Sequence.{IsSequence}
use Rattle.pfs_search.specs.Greedy.{jobs_taken}
use Rattle.pfs_iterate.specs.Iterated.{is_free, left_among, movable}
use Rattle.pfs_iterate.specs.Private.Steps.{ranks_of}
use Rattle.pfs_iterate.specs.Rounds.{staying}
use Rattle.pfs_iterate.proofs.destroy.take_jobs.Given as goal

abbrev pub invariant-loop-word : goal.invariant-loop-word
invariant-loop-word l = record {
  same_size : l.seq.size ≡ length l.order;
  jobs : length l.seq.jobs + l.word-index ≡ length l.order;
  count : l.count ≡ length (movable l.held l.stay l.seq.jobs);
  free : l.count + l.word-index ≡ length (movable l.held l.stay l.order);
  taken : l.taken.items ++ jobs_taken (movable l.held l.stay l.seq.jobs) (drop l.word-index l.words)
      ≡ jobs_taken (movable l.held l.stay l.order) l.words;
  all_free : All (λ job. is_free l.stay job ≡ true) l.taken.items;
  left : left_among (is_free l.stay) (drop l.held l.seq.jobs) (drop l.word-index l.words)
      ≡ left_among (is_free l.stay) (drop l.held l.order) l.words;
  front : take l.held l.seq.jobs ≡ take l.held l.order;
  ranks : l.ranks ≡ ranks_of (is_free l.stay) (drop l.held l.seq.jobs);
  ranks_few : length l.ranks ≤ length l.order;
  staying : staying l.stay l.seq.jobs ≡ staying l.stay l.order;
  together : IsSequence (length l.order) (l.taken.items ++ l.seq.jobs);
  long : length l.taken.items ≡ l.word-index;
  capacity : vec_capacity l.fn.taken ≤ vec_capacity l.taken;
}
