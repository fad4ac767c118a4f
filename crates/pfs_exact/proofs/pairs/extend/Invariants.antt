use Rattle.std.proofs.Common.{suc, ◌-◌, ◌≤◌}
use Rattle.pfs_audit.specs.Bound.{time_on}
use Rattle.pfs_base.proofs.Published.Partly.{Partly}
use Rattle.pfs_exact.proofs.pairs.extend.Given as goal

abbrev pub invariant-loop-job : goal.invariant-loop-job
invariant-loop-job l = Partly (λ job time. time ≤ time_on l.instance.shop l.first (suc (l.machine - l.first)) job)
    l.instance.shop.jobs l.job l.fn.across l.across
