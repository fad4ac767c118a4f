use Rattle.std.proofs.Common.{◌≡◌, ◌+◌, ◌<◌, length, inl, inr, ◌∙◌, arith}
use Rattle.std.proofs.lemmas.Bool.{cases_lt}
use Rattle.pfs_insert.specs.Private.Rows.{AreRows, row_value}
use Rattle.pfs_insert.proofs.RowSteps.{row_fits, row_kept}
use Rattle.pfs_insert.proofs.rows.fill_rows.Goals as goal

pub loop-count-preserved : goal.loop-count-preserved
loop-count-preserved g c =
    let shop = g.B.Bench.shop c.args.bench.now in
    let jobs = c.args.seq.now.jobs in
    let back = c.args.back in
    let count = c.loop-count.count in
    let invariant = c.loop-count.invariant in
    let same = invariant.same_shop in
    let inside : count < length jobs = omega (arith, c.loop-count-test.true, c.len-count-end.ensures.value) in
    let kept = rw same at c.fill_next.ensures.kept in
    let ends = row_fits (count + 1) shop.jobs shop.machines (omega (arith, c.requires.few)) in
    let rows : AreRows g.B.Span.Length.number shop jobs c.fill_next.new.rows back (count + 1) = λ row le.
    elim (cases_lt row (count + 1)) [
      | inl earlier ↦
          row_kept g.B.Span.Length.number shop c.loop-count.rows c.fill_next.new.rows back row (row_value shop jobs back row)
          _ kept earlier (omega (arith, c.requires.few)) (invariant.rows row (omega arith))
      | inr later ↦
          let last : row ≡ count + 1 = omega arith in
          rw last (rw same at c.fill_next.ensures.row)
    ] in
    record {
      same_shop = c.fill_next.ensures.bench.shop ∙ same;
      counted = omega (arith, rw same at c.fill_next.ensures.bench.counted, invariant.counted);
      rows = rows;
      kept = λ place d lt out.
          kept place d lt (elim out [
            | inl before ↦ inl (omega arith)
            | inr after ↦ inr (omega arith)
          ]) ∙ invariant.kept place d lt out;
    }
