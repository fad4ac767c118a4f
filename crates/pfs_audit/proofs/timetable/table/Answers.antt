use Rattle.std.proofs.Common.{◌≡◌, ℕ, ◌+◌, ◌-◌, ◌*◌, ◌<◌, length, get_or, ap, ◌∙◌, arith}
use Rattle.pfs_base.specs.Paths.{makespan}
use Rattle.pfs_audit.specs.Schedule.{Starts, least_end, least_start}
use Rattle.pfs_audit.proofs.Schedules.{none_ends_earlier}
use Rattle.pfs_audit.proofs.TableLemmas.{entry_at, last_is_makespan, table_ends, table_ends_by, table_is_least}
use Rattle.pfs_audit.proofs.timetable.table.Goals as goal
use Rattle.pfs_audit.proofs.timetable.table.Goals.{After-loop-row}

start_at : (c : After-loop-row) (row machine : ℕ) → row < length c.args.order.now
    → machine < c.args.instance.now.shop.machines
    → get_or c.loop-row.starts.items (row * c.machines-machines.result + machine) 0
    ≡ least_start c.args.instance.now.shop c.args.order.now row machine
start_at c =
    let shop = c.args.instance.now.shop in
    let order = c.args.order.now in
    entry_at (least_start shop order) shop.machines c.loop-row.row c.machines-machines.result (length order)
    c.loop-row.starts.items c.loop-row.invariant.starts c.machines-machines.ensures.value (omega arith)

end_at : (c : After-loop-row) (row machine : ℕ) → row < length c.args.order.now
    → machine < c.args.instance.now.shop.machines
    → get_or c.loop-row.ends.items (row * c.machines-machines.result + machine) 0
    ≡ least_end c.args.instance.now.shop c.args.order.now row machine
end_at c =
    let shop = c.args.instance.now.shop in
    let order = c.args.order.now in
    entry_at (least_end shop order) shop.machines c.loop-row.row c.machines-machines.result (length order)
    c.loop-row.ends.items c.loop-row.invariant.ends c.machines-machines.ensures.value (omega arith)

-- the table's starts
abbrev starts_of : (c : After-loop-row) → Starts
starts_of c row machine = get_or c.loop-row.starts.items (row * c.machines-machines.result + machine) 0

pub returns-clause-starts : goal.returns-clause-starts
returns-clause-starts c =
    let at = (goal.at.returns-clause-starts c).After-loop-row in
    table_is_least c.args.instance.now.shop c.args.order.now (starts_of at) (start_at at)

pub returns-clause-ends : goal.returns-clause-ends
returns-clause-ends c =
    let at = (goal.at.returns-clause-ends c).After-loop-row in
    let ends = table_ends c.args.instance.now.shop c.args.order.now (starts_of at) (start_at at) in
    λ row machine r m. end_at at row machine r m ∙ ends row machine r m

-- the last end of the table
last_at : (c : After-loop-row) → let width = c.machines-machines.result in
    get_or c.loop-row.ends.items ((length c.in_ok-jobs.jobs.items - 1) * width + (width - 1)) 0
    ≡ makespan c.args.instance.now.shop c.args.order.now
last_at c =
    let shop = c.args.instance.now.shop in
    let order = c.args.order.now in
    let rows = ap length c.in_ok-jobs.ensures in
    let width = c.machines-machines.ensures.value in
    let last = end_at c (length order - 1) (shop.machines - 1) (omega arith) (omega arith) in
    rw (rows, width) (rw width at last ∙ last_is_makespan shop order (omega arith))

pub returns-clause-makespan : goal.returns-clause-makespan
returns-clause-makespan c = last_at (goal.at.returns-clause-makespan c).After-loop-row

pub returns-clause-ends_by : goal.returns-clause-ends_by
returns-clause-ends_by c =
    let at = (goal.at.returns-clause-ends_by c).After-loop-row in
    let by = table_ends_by c.args.instance.now.shop c.args.order.now (starts_of at) (start_at at) in
    let last = last_at at in
    λ row machine r m. let here = by row machine r m in omega arith

pub returns-clause-earliest : goal.returns-clause-earliest
returns-clause-earliest c =
    let shop = c.args.instance.now.shop in
    let last = last_at (goal.at.returns-clause-earliest c).After-loop-row in
    λ starts time feasible by.
    let low = none_ends_earlier shop c.args.order.now (omega arith) starts time feasible by in omega arith
