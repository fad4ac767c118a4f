use Rattle.std.proofs.Common.{◌≡◌, ℕ, ◌+◌, ◌-◌, ◌*◌, ◌<◌, ◌≤◌, Bool, true, false, Contains, List, length, length-append, refl, ap, sym, ◌∙◌}
use Rattle.std.proofs.Common.{arith}
use Rattle.std.proofs.Math.Nat.{mul-le-mul_right}
use Rattle.pfs_order.specs.Sequence.{IsSequence}
use Rattle.pfs_order.proofs.Published.Sequences.{length-lt-size}
use Rattle.pfs_insert.specs.Insertion.{makespan_with}
use Rattle.pfs_insert.proofs.Exchange.{back_none}
use Rattle.pfs_base.specs.FlowShop.{FlowShop}
use Rattle.pfs_insert.specs.Private.Rows.{row_value, AreRows, HasRow, HasRows}
use Rattle.pfs_insert.proofs.FirstLeast.{best_is}
use Rattle.pfs_insert.proofs.RowSteps.{other_kept, row_in_front}
use Rattle.pfs_insert.proofs.heads_tails.best_in_table.Given.{Over}
use Rattle.pfs_insert.proofs.heads_tails.best_in_table.Goals.{After-fill_rows-2, After-split_at_mut-rows}
use Rattle.pfs_insert.proofs.heads_tails.best_in_table.Goals as goal

few : {size all job : ℕ} (jobs : List ℕ) → size ≡ all → job < size → (Contains jobs job → ⊥) → IsSequence size jobs
    → length jobs < all
few {size} {all} {job} jobs same small absent sequence =
    let less = length-lt-size size job jobs small absent sequence in omega arith

cells : (len machines : ℕ) → (4 * (len + 1) - 2) * machines ≡ (4 * len + 2) * machines
cells len machines = let e : 4 * (len + 1) - 2 ≡ 4 * len + 2 = omega arith in rw e refl

pub fill_rows-requires-clause-few : goal.fill_rows-requires-clause-few
fill_rows-requires-clause-few g c =
    few c.args.seq.now.jobs c.requires.size c.requires.job c.requires.absent c.size.ensures.sequence

no_row : (shop : FlowShop) (jobs : List ℕ) (back : Bool) (turn : ℕ) → row_value shop jobs back 0 turn ≡ 0
no_row shop jobs true turn = back_none shop jobs (length jobs - 0) _ (omega arith)
no_row shop jobs false turn = refl

-- the first and the last row of the table are rows of zeros
zeros : (g : Over) (c : After-split_at_mut-rows g) (back : Bool) →
    HasRow g.B.Span.Length.number (g.B.Bench.shop c.args.bench.now) c.split_at_mut-rows.result.0.now back 0 (λ turn. 0)
zeros g c back turn d lt =
    let shop = g.B.Bench.shop c.args.bench.now in
    let some = (g.met.B.Bench.within c.args.bench.now).sizes.some_job in
    let split = c.split_at_mut-rows.ensures in
    let at : 0 * shop.machines + turn ≡ turn = omega arith in
    ap g.B.Span.Length.number (sym (row_in_front shop c.split_at_mut-rows.result.0.now c.split_at_mut-rows.result.1.now back
    0 turn d (split.front_len ∙ rw (c.size.ensures.value, c.requires.size, c.machines.ensures) refl) (omega arith) lt))
    ∙ rw (at, ← split.value) (c.requires.table.zeros back turn d lt)

pub fill_rows-requires-clause-zeros : goal.fill_rows-requires-clause-zeros
fill_rows-requires-clause-zeros g c =
    zeros g (goal.at.fill_rows-requires-clause-zeros g c).After-split_at_mut-rows false

pub fill_rows-requires-2-clause-zeros : goal.fill_rows-requires-2-clause-zeros
fill_rows-requires-2-clause-zeros g c =
    let shop = g.B.Bench.shop c.args.bench.now in
    let some = (g.met.B.Bench.within c.args.bench.now).sizes.some_job in
    rw c.fill_rows.ensures.bench.shop (other_kept g.B.Span.Length.number shop c.split_at_mut-rows.result.0.now
    c.fill_rows.new.rows false 0 (λ turn. 0) c.fill_rows.ensures.kept (omega arith)
    (zeros g (goal.at.fill_rows-requires-2-clause-zeros g c).After-split_at_mut-rows true))

pub fill_rows-requires-2-clause-few : goal.fill_rows-requires-2-clause-few
fill_rows-requires-2-clause-few g c =
    rw c.fill_rows.ensures.bench.shop (few c.args.seq.now.jobs c.requires.size c.requires.job c.requires.absent
    c.size.ensures.sequence)

pub fill_rows-requires-2-clause-room : goal.fill_rows-requires-2-clause-room
fill_rows-requires-2-clause-room g c =
    let all = cells (length c.args.seq.now.jobs) (g.B.Bench.shop c.args.bench.now).machines in
    rw c.fill_rows.ensures.bench.shop (omega (arith, c.requires.room, all, c.fill_rows.ensures.bench.counted))

-- the rows of heads and tails, after both are filled
rows_are : (g : Over) (c : After-fill_rows-2 g) →
    HasRows g.B.Span.Length.number (g.B.Bench.shop c.args.bench.now) c.args.seq.now.jobs c.fill_rows-2.new.rows
rows_are g c = record {
  size = c.fill_rows-2.auto.rows ∙ c.fill_rows.auto.rows ∙ c.split_at_mut-rows.ensures.front_len
      ∙ rw (c.size.ensures.value, c.requires.size, c.machines.ensures) refl;
  rows = λ back.
      let shop = g.B.Bench.shop c.args.bench.now in
      let jobs = c.args.seq.now.jobs in
      let few = few jobs c.requires.size c.requires.job c.requires.absent c.size.ensures.sequence in
      elim back as (λ b. AreRows g.B.Span.Length.number shop jobs c.fill_rows-2.new.rows b (length jobs)) [
        | true ↦ rw c.fill_rows.ensures.bench.shop at c.fill_rows-2.ensures.rows
        | false ↦ λ row le. other_kept g.B.Span.Length.number shop c.fill_rows.new.rows c.fill_rows-2.new.rows true row
            (row_value shop jobs false row) (rw c.fill_rows.ensures.bench.shop at c.fill_rows-2.ensures.kept)
            (omega arith) (c.fill_rows.ensures.rows row le)
      ];
}

pub span_with-span-requires-clause-rows : goal.span_with-span-requires-clause-rows
span_with-span-requires-clause-rows g c =
    rw c.loop-place.invariant.same_shop (rows_are g (goal.at.span_with-span-requires-clause-rows g c).After-fill_rows-2)

pub span_with-span-requires-clause-few : goal.span_with-span-requires-clause-few
span_with-span-requires-clause-few g c =
    rw c.loop-place.invariant.same_shop (few c.args.seq.now.jobs c.requires.size c.requires.job c.requires.absent
    c.size.ensures.sequence)

pub span_with-span-requires-clause-room : goal.span_with-span-requires-clause-room
span_with-span-requires-clause-room g c =
    let machines = (g.B.Bench.shop c.args.bench.now).machines in
    let len = length c.args.seq.now.jobs in
    let place = c.loop-place.place in
    let all = cells len machines in
    let inside : 2 * len + 2 * place + 2 ≤ 4 * len + 2 =
    omega (arith, c.loop-place-test.true, c.len-place-end.ensures.value) in
    let fits = mul-le-mul_right machines inside in
    rw c.loop-place.invariant.same_shop (omega (arith, c.requires.room, all, fits, c.loop-place.invariant.counted))

pub loop-place-preserved : goal.loop-place-preserved
loop-place-preserved g c =
    let same = c.loop-place.invariant.same_shop in
    let span = c.span_with-span.ensures in
    record {
      same_shop = span.bench.shop ∙ same;
      counted = omega (arith, rw same at span.bench.counted, c.loop-place.invariant.counted);
      best = λ _. c.better-best.ensures (makespan_with (g.B.Bench.shop c.args.bench.now) c.args.seq.now.jobs c.args.job)
          c.loop-place.invariant.best (rw same at span.value);
    }

pub returns-clause-best : goal.returns-clause-best
returns-clause-best g c =
    let jobs = c.args.seq.now.jobs in
    let all : c.loop-place.place ≡ length jobs + 1 =
    omega (arith, c.loop-place-test.false, c.loop-place.auto.place-end, c.len-place-end.ensures.value) in
    best_is (g.B.Bench.shop c.args.bench.now) jobs c.args.job (rw all at (c.loop-place.invariant.best (omega arith)))

pub returns-clause-table : goal.returns-clause-table
returns-clause-table g c =
    let shop = g.B.Bench.shop c.args.bench.now in
    let some = (g.met.B.Bench.within c.args.bench.now).sizes.some_job in
    let rows = rows_are g (goal.at.returns-clause-table g c).After-fill_rows-2 in
    record {
      size = length-append c.fill_rows-2.new.rows c.loop-place.put
          ∙ omega (arith, rows.size, c.loop-place.auto.put, c.split_at_mut-rows.ensures.back_len, c.requires.table.size);
      zeros = λ back turn d lt.
          let at : 0 * shop.machines + turn ≡ turn = omega arith in
          rw at at (ap g.B.Span.Length.number (row_in_front shop c.fill_rows-2.new.rows c.loop-place.put back 0 turn d
          rows.size (omega arith) lt) ∙ rows.rows back 0 (omega arith) turn d lt
          ∙ no_row shop c.args.seq.now.jobs back turn);
    }
