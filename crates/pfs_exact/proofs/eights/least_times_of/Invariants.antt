use Rattle.std.proofs.Common.{ℕ, ◌<◌, ◌≤◌, replicate}
use Rattle.pfs_base.specs.FlowShop.{time_of}
use Rattle.pfs_exact.specs.declared.prove.TheConstants.{MOST_PROVED_MACHINES}
use Rattle.pfs_exact.specs.Private.Nodes.{IsOpen}
use Rattle.pfs_base.proofs.Published.Partly.{Partly}
use Rattle.pfs_exact.proofs.eights.least_times_of.Given as goal

abbrev pub invariant-loop-machine : goal.invariant-loop-machine
invariant-loop-machine l =
    let shop = l.instance.shop in
    Partly (λ machine time. (job : ℕ) → job < shop.jobs → IsOpen l.ends.front.jobs l.ends.back.jobs job
    → time ≤ time_of shop job machine) shop.machines l.machine (replicate MOST_PROVED_MACHINES 0) l.least
