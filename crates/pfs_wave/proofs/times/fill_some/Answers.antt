use Rattle.std.proofs.lemmas.Grind.{common_steps}
use Rattle.std.proofs.Common.{◌≡◌, ◌+◌, ◌∙◌, length, map, refl, arith}
use Rattle.pfs_wave.specs.Private.Blending.{past_at}
use Rattle.pfs_wave.specs.Private.HeldRows.{rows_at}
use Rattle.pfs_wave.proofs.BlendSteps.{next_is}
use Rattle.pfs_wave.proofs.SkewedTimes.{filled_none, filled_one, filled_then, same_long, vector_inside}
use Rattle.pfs_wave.proofs.times.fill_some.Goals as goal

pub loop-step-init : goal.loop-step-init
loop-step-init g c =
    let none : c.args.row + 0 ≡ c.args.row = omega arith in
    rw none (record {
      filled = filled_none _ _ _ _ _;
      blends = c.requires.last;
    })

pub put-requires : goal.put-requires
put-requires g c =
    vector_inside g.row.N (length c.args.order.now) (c.args.row + c.loop-step.step) c.args.k _ (omega arith)
    c.requires.k
    (same_long g.T.Stored.lanes c.args.times.now c.loop-step.times c.loop-step.invariant.filled.long ∙ c.requires.steps)

pub loop-step-preserved : goal.loop-step-preserved
loop-step-preserved g c =
    let row = c.args.row + c.loop-step.step in
    let lanes = g.T.Stored.lanes in
    let rows = rows_at g.row.N (map lanes c.args.rows.now) c.args.order.now c.args.k in
    let so_far = c.loop-step.invariant in
    let inside = vector_inside g.row.N (length c.args.order.now) row c.args.k _ (omega arith) c.requires.k
    (same_long lanes c.args.times.now c.loop-step.times so_far.filled.long ∙ c.requires.steps) in
    record {
      filled =
          filled_then so_far.filled (filled_one lanes g.row.N c.args.k rows row c.loop-step.times c.push-one.result.row
          c.requires.k inside c.put.ensures
          (rw c.vector_of.ensures at (c.push-one.ensures.row (past_at rows row) so_far.blends))) refl (omega arith)
          (omega arith) (omega arith);
      blends =
          next_is lanes rows row (c.args.row + (c.loop-step.step + 1)) c.push-one.result.next (omega arith) c.vector_of.ensures
          (c.push-one.ensures.next (past_at rows row) so_far.blends);
    }

pub overflow_add-row-in-loop-step-2 : goal.overflow_add-row-in-loop-step-2
overflow_add-row-in-loop-step-2 g c = grind (arith, common_steps)
