use Rattle.std.proofs.Common.{◌≡◌, ◌+◌, ◌*◌, ◌≤◌, vec_capacity}
use Rattle.pfs_base.specs.Paths.{operation}
use Rattle.pfs_base.proofs.Published.Heads.{head_before}
use Rattle.pfs_audit.specs.Schedule.{least_end, least_start}
use Rattle.pfs_audit.proofs.Rows.{AreEntered}
use Rattle.pfs_audit.proofs.timetable.add_row.Given as goal

abbrev pub invariant-loop-machine : goal.invariant-loop-machine
invariant-loop-machine l =
    let shop = l.instance.shop in
    record {
      starts : AreEntered (least_start shop l.order) shop.machines l.row l.machine l.starts.items;
      ends : AreEntered (least_end shop l.order) shop.machines l.row l.machine l.ends.items;
      room_of_starts : (l.row + 1) * shop.machines ≤ vec_capacity l.starts;
      room_of_ends : (l.row + 1) * shop.machines ≤ vec_capacity l.ends;
      kept_starts : vec_capacity l.fn.starts ≤ vec_capacity l.starts;
      kept_ends : vec_capacity l.fn.ends ≤ vec_capacity l.ends;
      before : l.before ≡ head_before (operation shop l.order) l.row l.machine;
    }
