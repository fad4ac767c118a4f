use Rattle.std.proofs.Common.{ℕ, ◌≡◌, ◌+◌, ◌<◌, length, get_or}
use Rattle.pfs_c.specs.Private.Marks.{AreMarked}
use Rattle.pfs_c.proofs.given.mark_some.Given as goal

abbrev pub invariant-loop-next : goal.invariant-loop-next
invariant-loop-next l = record {
  four : length l.some ≡ 4;
  same : (at : ℕ) → at < l.next → get_or l.some at 0 ≡ get_or l.jobs (l.place + at) 0;
  below : (at : ℕ) → at < l.next → get_or l.some at 0 < l.size;
}

abbrev pub invariant-loop-next-2 : goal.invariant-loop-next-2
invariant-loop-next-2 l = AreMarked l.size l.jobs l.marks l.is_repeated (l.place + l.next)
