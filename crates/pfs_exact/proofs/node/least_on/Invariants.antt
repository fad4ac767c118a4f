use Rattle.std.proofs.Common.{ℕ, ◌<◌, ◌≤◌}
use Rattle.pfs_base.specs.FlowShop.{time_of}
use Rattle.pfs_exact.specs.declared.ends.Ends.{Ends}
use Rattle.pfs_exact.specs.Private.Nodes.{AreOpen, IsOpen}
use Rattle.pfs_exact.proofs.node.least_on.Given as goal

abbrev pub invariant-loop-job : goal.invariant-loop-job
invariant-loop-job l = (ends : Ends) → AreOpen l.instance.shop.jobs ends l.marks → (job : ℕ) → job < l.job
    → IsOpen ends.front.jobs ends.back.jobs job → l.least ≤ time_of l.instance.shop job l.machine
