use Rattle.std.proofs.Common.{◌+◌, true, false, sym, subst, arith}
use Rattle.pfs_exact.specs.declared.children.TheConstants.{CLOSED}
use Rattle.pfs_exact.specs.Private.Nodes.{IsOpen}
use Rattle.pfs_exact.proofs.Bounds.{AreFound, bounds_none, bounds_set}
use Rattle.pfs_exact.proofs.children.children_of.Goals as goal
use Rattle.pfs_exact.proofs.children.children_of.Goals.{then-room-job, else-room-job}

pub loop-job-init : goal.loop-job-init
loop-job-init c = let shop = c.args.instance.now.shop in let ends = c.args.ends.now in record {
  marks = c.mark_open.ensures;
  least = c.least_times.ensures;
  ahead = bounds_none shop ends true _ (omega arith);
  behind = bounds_none shop ends false _ (omega arith);
}

pub loop-job-preserved : goal.loop-job-preserved
loop-job-preserved c =
    let shop = c.args.instance.now.shop in
    let ends = c.args.ends.now in
    let front = ends.front.jobs in
    let back = ends.back.jobs in
    let job = c.loop-job.job in
    let room = c.loop-job.room in
    let found = c.loop-job.invariant in
    elim c.if-room-job.branch [
      | then-room-job w ↦
          let outside = found.marks.only job (omega arith) w.if-room-job.true in
          subst (AreFound shop ends (job + 1)) (sym w.room-is) (record {
            marks = found.marks;
            least = found.least;
            ahead = bounds_set shop ends true job (job + 1) job w.bound_ahead.result room.bounds (omega arith)
                (λ k small other. omega arith)
                (λ outside. w.bound_ahead.ensures front back c.raise.ensures found.least) (λ less. outside) found.ahead;
            behind = bounds_set shop ends false job (job + 1) job w.bound_behind.result room.others (omega arith)
                (λ k small other. omega arith)
                (λ outside. w.bound_behind.ensures front back c.raise.ensures found.least) (λ less. outside) found.behind;
          })
      | else-room-job w ↦
          let shut = λ (outside : IsOpen front back job).
          let marked = found.marks.marked job (omega arith) outside in let unmarked = w.if-room-job.false in absurd cc in
          subst (AreFound shop ends (job + 1)) (sym w.room-is) (record {
            marks = found.marks;
            least = found.least;
            ahead = bounds_set shop ends true job (job + 1) job CLOSED room.bounds (omega arith)
                (λ k small other. omega arith) (λ outside. absurd (shut outside)) (λ less. absurd (omega arith)) found.ahead;
            behind = bounds_set shop ends false job (job + 1) job CLOSED room.others (omega arith)
                (λ k small other. omega arith) (λ outside. absurd (shut outside)) (λ less. absurd (omega arith)) found.behind;
          })
    ]
