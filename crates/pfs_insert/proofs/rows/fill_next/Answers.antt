use Rattle.std.proofs.Common.{◌≡◌, ◌+◌, ◌-◌, ◌*◌, length, take, drop, get_or, true, false, ap, sym}
use Rattle.std.proofs.Common.{◌∙◌, ◌++◌, append_assoc, arith}
use Rattle.std.proofs.lemmas.List.{get_or-take, get_or-drop, get_or_append_left, get_or-append-add}
use Rattle.pfs_insert.specs.Private.Rows.{row_value, AreValues}
use Rattle.pfs_insert.proofs.RowSteps.{put_part, row_fits}
use Rattle.pfs_insert.proofs.TailRows.{row_next, rows_short}
use Rattle.pfs_insert.proofs.rows.fill_next.Given.{Over}
use Rattle.pfs_insert.proofs.rows.fill_next.Goals.{After-split_at_mut-row, After-split_at_mut-row-else-back}
use Rattle.pfs_insert.proofs.rows.fill_next.Goals as goal

after_is : (g : Over) (c : After-split_at_mut-row g) → AreValues g.B.Span.Length.number
    (take c.machines-machines.result c.split_at_mut-before.result.1.now) (g.B.Bench.shop c.args.bench.now).machines
    true (row_value (g.B.Bench.shop c.args.bench.now) c.args.seq.now.jobs true c.args.count)
after_is g c turn d lt =
    let shop = g.B.Bench.shop c.args.bench.now in
    let wide = c.machines-machines.ensures in
    let split = c.split_at_mut-before.ensures in
    let k = shop.machines - 1 - turn in
    let ends = row_fits c.args.count shop.jobs shop.machines (omega (arith, c.requires.few, c.requires.count)) in
    let at : length c.split_at_mut-before.result.0.now + k
    ≡ 2 * (shop.jobs * shop.machines) - 1 - (c.args.count * shop.machines + turn) =
    omega (arith, c.requires.long, rw wide at split.front_len) in
    ap g.B.Span.Length.number (rw wide (get_or-take shop.machines _ k d (omega arith))
    ∙ sym (get_or-append-add c.split_at_mut-before.result.0.now _ k d)
    ∙ ap (λ i. get_or (c.split_at_mut-before.result.0.now ++ c.split_at_mut-before.result.1.now) i d) at)
    ∙ rw (c.if-back.true, split.value) at c.requires.row turn d lt

before_is : (g : Over) (c : After-split_at_mut-row-else-back g) → AreValues g.B.Span.Length.number
    (take (length c.split_at_mut-before-else-back.result.0.now - c.args.count * c.machines-machines.result)
    (drop (c.args.count * c.machines-machines.result) c.split_at_mut-before-else-back.result.0.now))
    (g.B.Bench.shop c.args.bench.now).machines false
    (row_value (g.B.Bench.shop c.args.bench.now) c.args.seq.now.jobs false c.args.count)
before_is g c turn d lt =
    let shop = g.B.Bench.shop c.args.bench.now in
    let wide = c.machines-machines.ensures in
    let split = c.split_at_mut-before-else-back.ensures in
    let before = c.split_at_mut-before-else-back.result.0.now in
    let start = c.args.count * shop.machines in
    let long : length before ≡ start + shop.machines = omega (arith, rw wide at split.front_len) in
    ap g.B.Span.Length.number (rw wide (get_or-take (length before - start) (drop start before) turn d (omega arith)
    ∙ get_or-drop start before turn d) ∙ sym (get_or_append_left before _ d (start + turn) (omega arith)))
    ∙ rw (c.if-back.false, split.value) at c.requires.row turn d lt

pub fill_row-requires-clause-short : goal.fill_row-requires-clause-short
fill_row-requires-clause-short g c =
    let is = after_is g (goal.at.fill_row-requires-clause-short g c).After-split_at_mut-row in
    rw c.if-back.true (λ turn d lt. omega (
      arith,
      is turn d lt,
      rows_short (g.B.Bench.shop c.args.bench.now) (g.met.B.Bench.within c.args.bench.now) c.args.seq.now.jobs
          (omega (arith, c.requires.few)) true c.args.count turn (omega (arith, c.requires.count)) lt,
    ))

pub fill_row-requires-else-back-clause-short : goal.fill_row-requires-else-back-clause-short
fill_row-requires-else-back-clause-short g c =
    let is = before_is g (goal.at.fill_row-requires-else-back-clause-short g c).After-split_at_mut-row-else-back in
    rw c.if-back.false (λ turn d lt. omega (
      arith,
      is turn d lt,
      rows_short (g.B.Bench.shop c.args.bench.now) (g.met.B.Bench.within c.args.bench.now) c.args.seq.now.jobs
          (omega (arith, c.requires.few)) false c.args.count turn (omega (arith, c.requires.count)) lt,
    ))

pub returns-then-back-clause-row : goal.returns-then-back-clause-row
returns-then-back-clause-row g c =
    let shop = g.B.Bench.shop c.args.bench.now in
    let jobs = c.args.seq.now.jobs in
    let count = c.args.count in
    let wide = c.machines-machines.ensures in
    let back = c.if-back.true in
    let is = after_is g (goal.at.returns-then-back-clause-row g c).After-split_at_mut-row in
    let job_is = rw (c.index_in_turn.ensures, c.len.ensures.value, back) at c.at-job.ensures.value in
    let ends = row_fits (count + 1) (2 * shop.jobs) shop.machines (omega (arith, c.requires.few, c.requires.count)) in
    let filled = (rw back at c.fill_row.ensures.row) (row_value shop jobs true count) is in
    let long = rw wide at c.split_at_mut-before.ensures.front_len in
    let front = rw wide at c.split_at_mut-row.ensures.front_len in
    let some = (g.met.B.Bench.within c.args.bench.now).sizes.some_machine in
    rw (back, append_assoc) (put_part g.B.Span.Length.number shop true (count + 1) c.split_at_mut-row.result.0.now
    c.fill_row.new.row _ _ (omega (arith, c.fill_row.auto.row, c.split_at_mut-row.ensures.back_len)) (omega arith)
    (omega (arith, c.requires.long))
    (λ turn d lt. filled turn d lt ∙ row_next shop jobs true count c.at-job.result turn c.requires.count job_is lt))

pub returns-else-back-clause-row : goal.returns-else-back-clause-row
returns-else-back-clause-row g c =
    let shop = g.B.Bench.shop c.args.bench.now in
    let jobs = c.args.seq.now.jobs in
    let count = c.args.count in
    let wide = c.machines-machines.ensures in
    let back = c.if-back.false in
    let is = before_is g (goal.at.returns-else-back-clause-row g c).After-split_at_mut-row-else-back in
    let job_is = rw (c.index_in_turn.ensures, c.len.ensures.value, back) at c.at-job.ensures.value in
    let ends = row_fits (count + 1) (2 * shop.jobs) shop.machines (omega (arith, c.requires.few, c.requires.count)) in
    let filled = (rw back at c.fill_row-else-back.ensures.row) (row_value shop jobs false count) is in
    let long = rw wide at c.split_at_mut-before-else-back.ensures.front_len in
    let part = rw wide at c.split_at_mut-row-else-back.ensures.front_len in
    rw back (put_part g.B.Span.Length.number shop false (count + 1) c.split_at_mut-before-else-back.result.0.now
    c.fill_row-else-back.new.row _ _ (omega (arith, c.fill_row-else-back.auto.row)) (omega arith)
    (omega (arith, c.requires.long))
    (λ turn d lt. filled turn d lt ∙ row_next shop jobs false count c.at-job.result turn c.requires.count job_is lt))
