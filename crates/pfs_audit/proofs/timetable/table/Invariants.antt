use Rattle.std.proofs.Common.{◌*◌, ◌≤◌, length, vec_capacity}
use Rattle.pfs_audit.specs.Schedule.{least_end, least_start}
use Rattle.pfs_audit.specs.Private.Rows.{AreRows}
use Rattle.pfs_audit.proofs.timetable.table.Given as goal

abbrev pub invariant-loop-row : goal.invariant-loop-row
invariant-loop-row l =
    let shop = l.instance.shop in
    record {
      starts : AreRows (least_start shop l.order) shop.machines l.row l.starts.items;
      ends : AreRows (least_end shop l.order) shop.machines l.row l.ends.items;
      room_of_starts : length l.order * shop.machines ≤ vec_capacity l.starts;
      room_of_ends : length l.order * shop.machines ≤ vec_capacity l.ends;
    }
