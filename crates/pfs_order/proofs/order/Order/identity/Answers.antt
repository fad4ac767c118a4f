use Rattle.std.proofs.Common.{Contains, subst, sym}
use Rattle.pfs_order.specs.Sequence.{Sequence}
use Rattle.pfs_order.proofs.Published.Sequences.{absent-all_jobs}
use Rattle.pfs_order.proofs.order.Order.identity.Goals as goal

pub insert_at-requires-clause-absent : goal.insert_at-requires-clause-absent
insert_at-requires-clause-absent c =
    let job = c.loop-job.job in
    subst (λ (s : Sequence). Contains s.jobs job → ⊥) (sym c.loop-job.invariant) (absent-all_jobs job)
