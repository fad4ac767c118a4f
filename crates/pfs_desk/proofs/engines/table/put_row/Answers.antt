use Rattle.std.proofs.Common.{◌≡◌, arith, rules}
use Rattle.pfs_base.proofs.Published.SendsLemmas.{then_sends}
use Rattle.pfs_desk.proofs.TableLemmas.{row_job_front, row_job, row_start_front, row_end_front, row_next, row_end}
use Rattle.pfs_desk.proofs.engines.table.put_row.Goals as goal

pub returns-in_err-sent-clause-text : goal.returns-in_err-sent-clause-text
returns-in_err-sent-clause-text g c =
    let front = row_job_front c.args.table.now c.args.row c.job.result c.job.ensures c.in_err-sent.ensures.text in
    search rules

pub loop-machine-init : goal.loop-machine-init
loop-machine-init g c = record {
  sends = row_job c.args.table.now c.args.row c.job.result c.job.ensures c.in_ok-sent.ensures.text;
  short = omega (arith, c.in_ok-sent.ensures.short);
}

pub returns-in_err-sent-2-clause-text : goal.returns-in_err-sent-2-clause-text
returns-in_err-sent-2-clause-text g c =
    let front = row_start_front c.args.table.now c.args.row c.loop-machine.machine c.start.result
    (omega (arith, c.loop-machine-test.true, c.machines-machine-end.ensures.value)) c.start.ensures
    c.loop-machine.invariant.sends c.in_err-sent-2.ensures.text in
    search rules

pub returns-in_err-sent-3-clause-text : goal.returns-in_err-sent-3-clause-text
returns-in_err-sent-3-clause-text g c =
    let front = row_end_front c.args.table.now c.args.row c.loop-machine.machine c.start.result c.end.result
    (omega (arith, c.loop-machine-test.true, c.machines-machine-end.ensures.value)) c.start.ensures c.end.ensures
    c.loop-machine.invariant.sends c.in_ok-sent-2.ensures.text c.in_err-sent-3.ensures.text in
    search rules

pub loop-machine-preserved : goal.loop-machine-preserved
loop-machine-preserved g c = record {
  sends = row_next c.args.table.now c.args.row c.loop-machine.machine c.start.result c.end.result c.start.ensures
      c.end.ensures c.loop-machine.invariant.sends c.in_ok-sent-2.ensures.text c.in_ok-sent-3.ensures.text;
  short = omega (arith, c.in_ok-sent-2.ensures.short, c.in_ok-sent-3.ensures.short, c.loop-machine.invariant.short);
}

pub returns-clause-text : goal.returns-clause-text
returns-clause-text g c =
    let all : c.loop-machine.machine ≡ c.args.table.now.machines =
    omega (arith, c.loop-machine-test.false, c.loop-machine.auto.machine-end, c.machines-machine-end.ensures.value) in
    rw (row_end c.args.table.now c.args.row c.loop-machine.machine all)
    (then_sends _ _ _ c.put.result c.loop-machine.invariant.sends c.put.ensures)
