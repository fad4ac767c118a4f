use Rattle.std.proofs.Common.{arith, rules}
use Rattle.pfs_base.proofs.Published.SendsLemmas.{then_sends}
use Rattle.pfs_desk.proofs.SolveLemmas.{file_short, solution_counted, solution_alone, solution_front}
use Rattle.pfs_desk.proofs.engines.solve.put_solution.Goals as goal

pub returns-in_err-sent : goal.returns-in_err-sent
returns-in_err-sent g c =
    let front = solution_front c.args.solution.now.order c.args.machines c.args.solution.now.makespan c.args.with_cells
    c.args.solution.now.cells c.in_err-sent.ensures in
    search rules

pub put_named-requires-clause-fits : goal.put_named-requires-clause-fits
put_named-requires-clause-fits g c =
    let short = file_short c.args.solution.now.order c.args.machines c.args.solution.now.makespan
    c.len-jobs.ensures.accepted c.len-jobs.ensures.sequence c.requires.some c.requires.few c.requires.stated in
    omega (arith, short, c.in_ok-sent.ensures.counted)

pub returns-then-with_cells : goal.returns-then-with_cells
returns-then-with_cells g c =
    rw (solution_counted c.args.solution.now.order c.args.machines c.args.solution.now.makespan c.args.with_cells
    c.args.solution.now.cells c.if-with_cells.true)
    (then_sends _ _ _ c.put_named.result c.in_ok-sent.ensures c.put_named.ensures.text)

pub returns-else-with_cells : goal.returns-else-with_cells
returns-else-with_cells g c =
    rw (solution_alone c.args.solution.now.order c.args.machines c.args.solution.now.makespan c.args.with_cells
    c.args.solution.now.cells c.if-with_cells.false) c.in_ok-sent.ensures
