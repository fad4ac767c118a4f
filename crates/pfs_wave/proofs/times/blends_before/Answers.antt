use Rattle.std.proofs.Common.{◌≡◌, map, ◌+◌, ◌-◌, ap, ◌∙◌, arith}
use Rattle.pfs_wave.specs.Private.Blending.{past_at}
use Rattle.pfs_wave.specs.Private.HeldRows.{rows_at}
use Rattle.pfs_wave.proofs.BlendSteps.{later_rows, next_is, warm}
use Rattle.pfs_wave.proofs.times.blends_before.Goals as goal

pub loop-earlier-preserved : goal.loop-earlier-preserved
loop-earlier-preserved g c =
    let rows = rows_at g.row.N (map g.T.Stored.lanes c.args.rows.now) c.args.order.now c.args.k in
    let start = c.args.row - 7 in
    let earlier = c.loop-earlier.earlier in
    let begun = c.loop-earlier.invariant.begun in
    let count = earlier - start in
    let at : earlier ≡ start + count = omega arith in
    record {
      begun = omega arith;
      blends =
          next_is g.T.Stored.lanes (later_rows rows start) count (earlier + 1 - start) _ (omega arith)
          (c.vector_of.ensures ∙ ap rows at)
          (c.push-last.ensures.next (past_at (later_rows rows start) count) c.loop-earlier.invariant.blends);
    }

pub returns : goal.returns
returns g c =
    let rows = rows_at g.row.N (map g.T.Stored.lanes c.args.rows.now) c.args.order.now c.args.k in
    let start = c.args.row - 7 in
    let begun = c.loop-earlier.invariant.begun in
    let end = c.loop-earlier.auto.earlier-end in
    let outside = c.loop-earlier-test.false in
    warm g.T.Stored.lanes rows c.args.row start (c.loop-earlier.earlier - start) _ (omega arith) (omega arith)
    c.loop-earlier.invariant.blends
