use Rattle.std.proofs.Common.{◌≡◌, ℕ, ◌+◌, ◌-◌, ◌*◌, ◌<◌, List, length, take, drop, get_or, insert, false, true, ap, sym, ◌∙◌}
use Rattle.std.proofs.Common.{arith}
use Rattle.std.proofs.lemmas.List.{get_or-take, get_or-drop, length-drop, length-take-le}
use Rattle.pfs_base.specs.Joins.{greatest_join}
use Rattle.pfs_insert.specs.Exchange.{heaviest_front, heaviest_back}
use Rattle.pfs_base.specs.Heads.{head_of}
use Rattle.pfs_insert.specs.Private.Rows.{AreValues}
use Rattle.pfs_insert.proofs.Exchange.{exchange_law}
use Rattle.pfs_insert.proofs.Joined.{greatest_front_and_back, join_is, sum_short}
use Rattle.pfs_insert.proofs.RowSteps.{row_fits}
use Rattle.pfs_insert.proofs.TailRows.{put_row, rows_short}
use Rattle.pfs_insert.proofs.heads_tails.span_with.Given.{Over}
use Rattle.pfs_insert.proofs.heads_tails.span_with.Goals.{After-len}
use Rattle.pfs_insert.proofs.heads_tails.span_with.Goals as goal

-- a row that is sliced out of a list
row_taken : {X : Type 0} (number : X → ℕ) (rows : List X) (start machines : ℕ) (values : ℕ → ℕ)
    → ((turn : ℕ) (d : X) → turn < machines → number (get_or rows (start + turn) d) ≡ values turn)
    → AreValues number (take (start + machines - start) (drop start rows)) machines false values
row_taken number rows start machines values known turn d lt =
    ap number (get_or-take _ _ turn d (omega arith) ∙ get_or-drop start rows turn d) ∙ known turn d lt

pub fill_row-requires-clause-short : goal.fill_row-requires-clause-short
fill_row-requires-clause-short g c =
    let shop = g.B.Bench.shop c.args.bench.now in
    let jobs = c.args.seq.now.jobs in
    let place = c.args.place in
    rw c.machines-machines.ensures (λ turn d lt.
    omega (
      arith,
      row_taken g.B.Span.Length.number c.args.rows.now (place * shop.machines) shop.machines (head_of shop jobs place)
          (c.requires.rows.rows false place c.requires.place) turn d lt,
      rows_short shop (g.met.B.Bench.within c.args.bench.now) jobs (omega (arith, c.requires.few)) false place turn
          c.requires.place lt,
    ))

-- the inserted row, joined with the row of tails that begins at its place
joined : (g : Over) (c : After-len g) →
    let shop = g.B.Bench.shop c.args.bench.now in
    let jobs = c.args.seq.now.jobs in
    let place = c.args.place in
    let machines = c.machines-machines.result in
    let back = length c.args.rows.now - (c.len.result - place + 1) * machines in
    greatest_join g.B.Span.Length.number c.fill_row.new.row (take (back + machines - back) (drop back c.args.rows.now))
    ≡ greatest_front_and_back shop.machines (heaviest_front shop (insert jobs place c.args.job) place)
    (heaviest_back shop jobs place)
joined g c =
    let number = g.B.Span.Length.number in
    let shop = g.B.Bench.shop c.args.bench.now in
    let jobs = c.args.seq.now.jobs in
    let place = c.args.place in
    let rows = c.args.rows.now in
    let count = length jobs - place in
    let back = length rows - (count + 1) * shop.machines in
    let ends = row_fits count (2 * shop.jobs) shop.machines (omega (arith, c.requires.few)) in
    let heads = (rw c.machines-machines.ensures at c.fill_row.ensures.row) (head_of shop jobs place)
    (row_taken number rows (place * shop.machines) shop.machines (head_of shop jobs place)
    (c.requires.rows.rows false place c.requires.place)) in
    let tails = row_taken number rows back shop.machines (heaviest_back shop jobs place) (λ turn d lt.
    let other = shop.machines - 1 - turn in
    let at : 2 * (shop.jobs * shop.machines) - 1 - (count * shop.machines + other) ≡ back + turn =
    omega (arith, c.requires.rows.size) in
    let row : length jobs - count ≡ place = omega (arith, c.requires.place) in
    let machine : shop.machines - 1 - other ≡ turn = omega arith in
    rw (at, row, machine) at (c.requires.rows.rows true count (omega arith) other d (omega arith))) in
    rw (c.machines-machines.ensures, c.len.ensures.value) (join_is number (heaviest_front shop (insert jobs place c.args.job)
    place) (heaviest_back shop jobs place) shop.machines c.fill_row.new.row _ (c.fill_row.auto.row ∙ c.requires.put)
    (length-take-le _ _ (omega (arith, length-drop back rows, c.requires.rows.size)) ∙ omega arith)
    (λ turn d lt. heads turn d lt ∙ put_row shop jobs c.args.job place c.requires.place turn) tails)

pub join_rows-requires-clause-in_limit : goal.join_rows-requires-clause-in_limit
join_rows-requires-clause-in_limit g c =
    omega (
      arith,
      joined g (goal.at.join_rows-requires-clause-in_limit g c).After-len,
      sum_short (g.B.Bench.shop c.args.bench.now) c.args.seq.now.jobs c.args.job c.args.place
          (g.met.B.Bench.within c.args.bench.now) (omega (arith, c.requires.few)) c.requires.place,
    )

pub returns-clause-value : goal.returns-clause-value
returns-clause-value g c =
    let shop = g.B.Bench.shop c.args.bench.now in
    let some = (g.met.B.Bench.within c.args.bench.now).sizes.some_machine in
    c.join_rows.ensures.value ∙ joined g (goal.at.returns-clause-value g c).After-len
    ∙ sym (exchange_law shop c.args.seq.now.jobs c.args.job c.args.place some c.requires.place)
