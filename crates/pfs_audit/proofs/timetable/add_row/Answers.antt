use Rattle.std.proofs.Common.{◌≡◌, ℕ, suc, ◌+◌, ◌-◌, get_or, ap, ◌∙◌, add-one, arith}
use Rattle.pfs_base.specs.declared.limits.TheConstants.{LONGEST_TIME}
use Rattle.pfs_base.specs.FlowShop.{time_of}
use Rattle.pfs_base.specs.Paths.{operation}
use Rattle.pfs_base.proofs.Published.Heads.{head, head_le, head_step, head_before_more, time_of-le}
use Rattle.pfs_audit.specs.Schedule.{least_end, least_start}
use Rattle.pfs_audit.proofs.Rows.{entry_added, entry_above, row_ended}
use Rattle.pfs_audit.proofs.Schedules.{least_end-is, least_start-is}
use Rattle.pfs_audit.proofs.timetable.add_row.Goals as goal
use Rattle.pfs_audit.proofs.timetable.add_row.Goals.{After-from, then-row-eq0, else-row-eq0}

-- an entry's operation starts at the later of the ends before it and above it
starts_at : (c : After-from)
    → c.max-start.result ≡ least_start c.args.instance.now.shop c.args.order.now c.args.row c.loop-machine.machine
starts_at c =
    let shop = c.args.instance.now.shop in
    let order = c.args.order.now in
    let row = c.args.row in
    let machine = c.loop-machine.machine in
    let start = least_start-is shop order row machine in
    let before = c.loop-machine.invariant.before in
    elim c.if-row-eq0.branch [
      | then-row-eq0 w ↦ let none = ap (λ r. head (operation shop order) r machine) w.if-row-eq0.true in omega arith
      | else-row-eq0 w ↦
          let end = entry_above (least_end shop order) shop.machines row machine w.index.result.now
          (w.len.result - c.machines-machines.result) c.loop-machine.ends.items c.loop-machine.invariant.ends
          (omega arith) (omega arith) (omega arith) w.index.ensures in
          let e : suc (row - 1) ≡ row = omega arith in
          let is = least_end-is shop order (row - 1) machine in
          let above = ap (λ r. head (operation shop order) r machine) e in
          omega arith
    ]

-- and it ends its own time later
ends_at : (c : After-from)
    → c.max-start.result + c.from.result
    ≡ least_end c.args.instance.now.shop c.args.order.now c.args.row c.loop-machine.machine
ends_at c =
    let shop = c.args.instance.now.shop in
    let order = c.args.order.now in
    let starts = starts_at c in
    let start = least_start-is shop order c.args.row c.loop-machine.machine in
    let end = least_end-is shop order c.args.row c.loop-machine.machine in
    let step = head_step (operation shop order) c.args.row c.loop-machine.machine in
    let time = ap (λ job. time_of shop job c.loop-machine.machine) c.at-job.ensures.value in
    omega arith

pub overflow_add-before : goal.overflow_add-before
overflow_add-before c =
    let shop = c.args.instance.now.shop in
    let order = c.args.order.now in
    let ends = ends_at c in
    let is = least_end-is shop order c.args.row c.loop-machine.machine in
    let each = λ (row machine : ℕ). time_of-le shop c.machines-machines.ensures.within (get_or order row 0) machine in
    let small = head_le (operation shop order) LONGEST_TIME each (suc c.args.row) c.loop-machine.machine in
    omega arith

pub loop-machine-preserved : goal.loop-machine-preserved
loop-machine-preserved c =
    let shop = c.args.instance.now.shop in
    let order = c.args.order.now in
    let row = c.args.row in
    let machine = c.loop-machine.machine in
    let at = (goal.at.loop-machine-preserved c).After-from in
    record {
      starts = rw c.push_reserved.ensures.items (entry_added (least_start shop order) shop.machines row machine _
          c.loop-machine.starts.items c.loop-machine.invariant.starts (starts_at at));
      ends = rw c.push_reserved-in-loop-machine.ensures.items (entry_added (least_end shop order) shop.machines row
          machine _ c.loop-machine.ends.items c.loop-machine.invariant.ends (ends_at at));
      room_of_starts = omega arith;
      room_of_ends = omega arith;
      kept_starts = omega arith;
      kept_ends = omega arith;
      before = rw (head_before_more (operation shop order) row machine, add-one row)
          (ends_at at ∙ least_end-is shop order row machine);
    }

pub returns-clause-starts : goal.returns-clause-starts
returns-clause-starts c =
    let shop = c.args.instance.now.shop in
    let last : c.loop-machine.machine ≡ shop.machines = omega arith in
    row_ended (least_start shop c.args.order.now) shop.machines c.args.row c.loop-machine.starts.items
    (rw last at c.loop-machine.invariant.starts)

pub returns-clause-ends : goal.returns-clause-ends
returns-clause-ends c =
    let shop = c.args.instance.now.shop in
    let last : c.loop-machine.machine ≡ shop.machines = omega arith in
    row_ended (least_end shop c.args.order.now) shop.machines c.args.row c.loop-machine.ends.items
    (rw last at c.loop-machine.invariant.ends)
