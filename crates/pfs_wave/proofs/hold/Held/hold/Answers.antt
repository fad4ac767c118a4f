use Rattle.std.proofs.lemmas.Grind.{common_steps}
use Rattle.std.proofs.Common.{ℕ, ◌^◌, refl, ◌≡◌, ◌+◌, ◌-◌, ◌*◌, ◌<◌, ◌≤◌, ◌++◌, length, map, take, drop, ◌∙◌, ap, sym, arith}
use Rattle.std.proofs.Math.Nat.{mul-le-mul_left, mul-le-mul_right}
use Rattle.std.proofs.lemmas.List.{get_or-take, get_or_default, length-append, length-drop, length-map, length-take, length-take-le, take_at, with_items_is}
use Rattle.std.proofs.lemmas.Slice.{between-put_mid}
use borrow.Rule.Slice.PartMut.{put_mid}
use Rattle.pfs_wave.specs.Private.HeldRows.{part_from}
use Rattle.pfs_wave.proofs.HeldLemmas.{holding_more, padded_in, taken_is}
use Rattle.pfs_wave.proofs.hold.Held.hold.Goals as goal

pub write_rows-requires-clause-front : goal.write_rows-requires-clause-front
write_rows-requires-clause-front g c row lt =
    let order = c.as_mut_slice-order.result.now in
    let seq = c.args.seq.now in
    let kept = c.kept_rows-kept.ensures in
    let long = c.as_mut_slice-order.ensures.len in
    let in_held = length-take c.args.self.now.len order in
    sym (get_or-take c.args.self.now.len order row 0 (omega (arith, kept.in_held, in_held))) ∙ kept.same_front row lt
    ∙ get_or_default seq row 0 c.args.self.now.jobs (omega (arith, kept.in_seq))

-- the steps of a table that begins at a step fit their types
steps_fit : (jobs start count : ℕ) → start ≤ jobs → 1 ≤ count → (2 * jobs + 9) * count < 2 ^ 32
    → (jobs + 8 < 2 ^ 32) × (start + (jobs + 8) < 2 ^ 32) × (start * count < 2 ^ 32)
    × ((start + (jobs + 8)) * count < 2 ^ 32)
steps_fit jobs start count within some small =
    let enough = mul-le-mul_left (2 * jobs + 9) some in
    let inside = mul-le-mul_right count within in
    (omega arith, omega arith, omega arith, omega arith)

pub overflow_add-steps : goal.overflow_add-steps
overflow_add-steps g c =
    omega (arith, (steps_fit c.args.self.now.jobs 0 g.row.N (omega arith) c.requires.some c.requires.small).0)

pub overflow_mul-times : goal.overflow_mul-times
overflow_mul-times g c =
    omega (
      arith,
      (steps_fit c.args.self.now.jobs c.start_for-start.result g.row.N c.start_for-start.ensures.within
          c.requires.some c.requires.small).2,
    )

pub overflow_add-times : goal.overflow_add-times
overflow_add-times g c =
    omega (
      arith,
      (steps_fit c.args.self.now.jobs c.start_for-start.result g.row.N c.start_for-start.ensures.within
          c.requires.some c.requires.small).1,
    )

pub overflow_mul-times-2 : goal.overflow_mul-times-2
overflow_mul-times-2 g c =
    omega (
      arith,
      (steps_fit c.args.self.now.jobs c.start_for-start.result g.row.N c.start_for-start.ensures.within
          c.requires.some c.requires.small).3,
    )

pub fill_times-requires-clause-jobs : goal.fill_times-requires-clause-jobs
fill_times-requires-clause-jobs g c row d lt =
    let rows = c.requires.rows in
    let few = padded_in c.args.seq.now c.write_rows.new.order c.args.self.now.jobs c.requires.jobs
    c.write_rows.ensures.rows row d lt in
    omega (arith, mul-le-mul_right g.row.N few)

pub returns-clause-sequence : goal.returns-clause-sequence
returns-clause-sequence g c =
    let others = c.write_rows.new.order in
    let held = c.args.self.now in
    let long = c.write_rows.ensures.length in
    rw (take_at others (drop (length others) held.order.items) held.order.len (omega (arith, long, c.as_mut_slice-order.ensures.len)))
    (taken_is others c.args.seq.now held.jobs c.write_rows.ensures.rows
    (omega (arith, c.requires.few, c.requires.held.holds.steps, long)))

pub returns-clause-held : goal.returns-clause-held
returns-clause-held g c =
    let lanes = g.T.Stored.lanes in
    let count = g.row.N in
    let held = c.args.self.now in
    let holds = c.requires.held.holds in
    let few = c.requires.few in
    let was = part_from held.start (held.jobs + 8) count held.times.items in
    let others = c.write_rows.new.order in
    let order_value = c.as_mut_slice-order.ensures.value in
    let order_long = c.write_rows.ensures.length ∙ ap length order_value in
    let start = c.start_for-start.result in
    let first = start * count in
    let n = (start + (held.jobs + 8)) * count - first in
    let table = c.move_kept-changed.new.table in
    let filled = c.fill_times.new.times in
    let table_long : length table ≡ (2 * held.jobs + 8) * count = omega (arith, c.move_kept-changed.ensures.table, c.as_mut_slice-table.ensures.len, c.requires.held.room) in
    let room = mul-le-mul_right count c.start_for-start.ensures.within in
    let inside : first ≤ length table = omega arith in
    let long : length filled ≡ n = c.fill_times.ensures.steps ∙ length-take-le n (drop first table) (omega (arith, length-drop first table)) in
    let made = put_mid first n table filled in
    let made_long : length made ≡ length table = omega (arith, length-append (take first table) (filled ++ drop n (drop first table)), length-append filled (drop n (drop first table)), length-take-le first table inside, length-drop n (drop first table), length-drop first table) in
    let part_long = sym (length-map was lanes) ∙ holds.all_times ∙ ap (λ n. n * count) holds.steps in
    let all : length others ≡ held.jobs + 8 = omega (arith, holds.steps) in
    let order_is =
    with_items_is held.order others (omega (arith, order_long, c.as_mut_slice-order.ensures.len)) in
    let times_is =
    with_items_is held.times made (omega (arith, made_long, c.move_kept-changed.ensures.table, c.as_mut_slice-table.ensures.len)) in
    record {
      start = c.start_for-start.ensures.within;
      room = ap length times_is ∙ made_long ∙ table_long;
      holds =
          rw (order_is, times_is, between-put_mid first n table filled ((start + (held.jobs + 8)) * count) inside long)
          (holding_more c.args.seq.now others (map lanes filled) holds c.requires.jobs few order_long c.write_rows.ensures.rows
          (length-map filled lanes ∙ omega (arith, long, part_long) ∙ sym (length-map was lanes))
          (λ k k_lt.
          c.fill_times.ensures.held k k_lt (rw (all) ((rw (c.as_mut_slice-table.ensures.value) at c.move_kept-changed.ensures.held) (map lanes c.args.rows.now)
          held.order.items others c.args.seq.now k k_lt refl all c.write_rows.ensures.rows (rw order_value at c.kept_rows-kept.ensures) holds))));
    }

pub fill_times-requires-clause-small : goal.fill_times-requires-clause-small
fill_times-requires-clause-small g c = grind (arith, common_steps)

pub fill_times-requires-clause-steps : goal.fill_times-requires-clause-steps
fill_times-requires-clause-steps g c = grind (arith, common_steps)

pub offset_bounds-table-start : goal.offset_bounds-table-start
offset_bounds-table-start g c = grind (arith, common_steps)
