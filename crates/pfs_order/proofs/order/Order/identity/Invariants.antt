use Rattle.std.proofs.Common.{◌≡◌}
use Rattle.pfs_order.specs.Sequence.{all_jobs}
use Rattle.pfs_order.proofs.order.Order.identity.Given as goal

abbrev pub invariant-loop-job : goal.invariant-loop-job
invariant-loop-job l = l.seq ≡ record { size = l.fn.size; jobs = all_jobs l.job }
