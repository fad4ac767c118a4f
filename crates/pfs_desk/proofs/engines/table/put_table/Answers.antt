use Rattle.std.proofs.Common.{◌≡◌, ◌∙◌, arith, rules}
use Rattle.pfs_base.proofs.Published.SendsLemmas.{then_all, then_front, then_sends}
use Rattle.pfs_desk.proofs.TableLemmas.{sizes_front, table_to-zero, table_to-more, table_front, table_end}
use Rattle.pfs_desk.proofs.engines.table.put_table.Goals as goal

pub returns-in_err-sent : goal.returns-in_err-sent
returns-in_err-sent g c =
    let front = sizes_front c.args.table.now c.in_err-sent.ensures.text in search rules

pub loop-row-init : goal.loop-row-init
loop-row-init g c = record {
  sends = rw (table_to-zero c.args.table.now) c.in_ok-sent.ensures.text;
  short = omega (arith, c.in_ok-sent.ensures.short);
}

pub returns-in_err-sent-2 : goal.returns-in_err-sent-2
returns-in_err-sent-2 g c =
    let front = table_front c.args.table.now c.loop-row.row
    (omega (arith, c.loop-row-test.true, c.rows-row-end.ensures.value))
    (then_front c.loop-row.invariant.sends c.in_err-sent-2.ensures.text) in
    search rules

pub loop-row-preserved : goal.loop-row-preserved
loop-row-preserved g c = record {
  sends = rw (table_to-more c.args.table.now c.loop-row.row)
      (then_all c.loop-row.invariant.sends c.in_ok-sent-2.ensures.text);
  short = omega (arith, c.in_ok-sent-2.ensures.short, c.loop-row.invariant.short);
}

pub returns : goal.returns
returns g c =
    let all : c.loop-row.row ≡ c.rows-row-end.result = omega (arith, c.loop-row-test.false, c.loop-row.auto.row-end) in
    rw (table_end c.args.table.now c.loop-row.row c.makespan.result (all ∙ c.rows-row-end.ensures.value)
    c.makespan.ensures)
    (then_sends _ _ _ c.put_named.result c.loop-row.invariant.sends c.put_named.ensures.text)
