use Rattle.std.proofs.Common.{◌≡◌, ℕ, ◌+◌, ◌-◌, ◌<◌, List, ◌++◌, length}
use Rattle.pfs_exact.specs.Private.Nodes.{AreChildren, Continues, IsWork, goal_of}
use Rattle.pfs_exact.proofs.SearchedChildren.{AreEntered}
use Rattle.pfs_exact.proofs.Searching.{below}
use Rattle.pfs_exact.proofs.branch.+branch.Given as goal

abbrev pub decreases-branch : goal.decreases-branch
decreases-branch l =
    l.instance.now.shop.jobs - (length l.work.now.ends.front.jobs + length l.work.now.ends.back.jobs)

abbrev pub invariant-each : goal.invariant-each
invariant-each l = record {
  work : IsWork l.instance.shop l.work;
  ends : l.work.ends ≡ l.fn.work.ends;
  continues : Continues l.instance.shop l.fn.work l.work;
  floor : l.work.floor ≡ l.fn.work.floor;
  left : l.work.left < l.fn.work.left;
  children : AreChildren l.instance.shop l.fn.work.ends l.forward l.room.bounds l.work;
  entered : (entered : List ℕ) × AreEntered l.instance.shop.jobs
      (l.instance.shop.jobs - (length l.fn.work.ends.front.jobs + length l.fn.work.ends.back.jobs))
      (l.fn.work.ends.front.jobs ++ l.fn.work.ends.back.jobs) l.room.bounds (goal_of l.work) l.fn.work.left l.work.left
      (length l.fn.work.parts.items) (length l.work.parts.items) entered;
}

abbrev pub decreases-each : goal.decreases-each
decreases-each l = below l.room.bounds (goal_of l.work) l.instance.shop.jobs
