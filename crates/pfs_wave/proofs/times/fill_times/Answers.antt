use Rattle.std.proofs.Common.{inl, inr, ◌≡◌, length, map, ◌∙◌, subst, arith}
use Rattle.std.proofs.lemmas.Bool.{cases_lt}
use Rattle.pfs_wave.specs.Private.HeldRows.{HoldLanes, HoldOutside, column, rows_at}
use Rattle.pfs_wave.proofs.SkewedTimes.{hold_as, hold_filled, same_long}
use Rattle.pfs_wave.proofs.times.fill_times.Goals as goal

pub loop-k-preserved : goal.loop-k-preserved
loop-k-preserved g c =
    let lanes = g.T.Stored.lanes in
    let count = g.row.N in
    let all = map lanes c.args.rows.now in
    let order = c.args.order.now in
    let steps = length order in
    let k = c.loop-k.k in
    let inside = c.loop-k-test.true in
    let so_far = c.loop-k.invariant in
    let filled = c.fill_vectors.ensures.filled in
    let old = map lanes c.args.times.now in
    let new = map lanes c.fill_vectors.new.times in
    let changed = c.args.changed in
    let ends = c.filled_end-end.ensures.enough in
    record {
      long = same_long lanes c.loop-k.times c.fill_vectors.new.times filled.long ∙ so_far.long;
      done = λ j lt outside.
          elim (cases_lt j k) [
            | inl earlier ↦
                hold_as (rows_at count all order j) steps
                (λ step. filled.others step j (omega arith) (λ same. omega arith)) (so_far.done j earlier outside)
            | inr here ↦
                let same : k ≡ j = omega arith in
                subst (λ i. HoldOutside (rows_at count all order i) changed.from changed.to changed.end steps
                (column count old i)
                → HoldLanes (rows_at count all order i) steps (column count new i)) same
                (λ out.
                hold_filled (rows_at count all order k) changed.from changed.to changed.end c.filled_end-end.result
                steps
                (column count old k) (column count new k) filled.filled
                (λ step early. filled.before step early ∙ so_far.rest step k inside (omega arith))
                (λ step late. filled.after step late ∙ so_far.rest step k inside (omega arith)) ends out) outside
          ];
      rest = λ step j lt le.
          filled.others step j lt (λ same. omega arith) ∙ so_far.rest step j lt (omega arith);
    }

pub returns-clause-held : goal.returns-clause-held
returns-clause-held g c k lt outside =
    let end = c.loop-k-test.false in
    c.loop-k.invariant.done k (omega arith) outside
