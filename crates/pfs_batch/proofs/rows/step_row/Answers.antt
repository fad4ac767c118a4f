use Rattle.std.proofs.Common.{◌≡◌, ℕ, ◌+◌, ◌*◌, ◌∙◌, [], max, get_or, ap, arith}
use Rattle.pfs_batch.specs.Private.Lanes.{capped}
use Rattle.pfs_batch.specs.Private.Ends.{cell, time_at, values_of}
use Rattle.pfs_batch.proofs.RowSteps.{read_as, row_more}
use Rattle.pfs_batch.proofs.rows.step_row.Goals as goal

pub loop-k-preserved : goal.loop-k-preserved
loop-k-preserved c =
    let at = c.loop-k in
    let ends = at.ends in
    let rows = c.args.rows.now in
    let starts = c.args.starts.now in
    let machine = 8 * c.loop-block.block + at.k in
    let wide = c.requires.ends in
    let long = at.invariant.long in
    let inside = c.loop-block-test.true in
    let k_lt = c.loop-k-test.true in
    let above = read_as ends machine c.index-ends-machine.result (omega arith) c.index-ends-machine.is in
    let sum : (lane : ℕ) → get_or starts lane 0 + 8 * c.loop-block.block + at.k ≡ get_or starts lane 0 + machine =
    λ lane. omega arith in
    let after : 8 * c.loop-block.block + (at.k + 1) ≡ machine + 1 = omega arith in
    rw after
    (row_more c.args.ends.now (time_at rows starts) machine ends at.before.values c.end_after-before.result at.invariant
    (omega arith)
    (λ lane lt. c.end_after-before.ensures lane lt
    ∙ ap (λ v. capped (max (get_or v lane 0) (get_or at.before.values lane 0)
    + get_or (get_or c.eight_of-times.result at.k []) lane 0)) above
    ∙ ap (λ t. capped (max (cell (values_of ends) machine lane) (get_or at.before.values lane 0) + t))
    (c.eight_of-times.ensures.times at.k lane k_lt lt ∙ ap (λ i. get_or rows i 0) (sum lane))))
