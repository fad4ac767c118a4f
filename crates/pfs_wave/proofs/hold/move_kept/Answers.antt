use Rattle.std.proofs.Common.{ℕ, inl, inr, max, ◌≡◌, ◌+◌, ◌-◌, ◌*◌, ◌<◌, ◌≤◌, length, map, get_or, ◌∙◌, ap, sym, arith}
use Rattle.std.proofs.Math.Nat.{mul-le-mul_right}
use Rattle.pfs_wave.specs.Private.HeldRows.{column, part_from}
use Rattle.pfs_wave.proofs.HeldLemmas.{held_len, outside_front, outside_kept, outside_moved, outside_none, part_step}
use Rattle.pfs_wave.proofs.SkewedTimes.{copied, unchanged}
use Rattle.pfs_wave.proofs.StepTables.{step_after}
use Rattle.pfs_wave.proofs.hold.move_kept.Goals.{then-kept-eq0, else-kept-eq0}
use Rattle.pfs_wave.proofs.hold.move_kept.Goals as goal

pub returns-then-first-start-clause-held : goal.returns-then-first-start-clause-held
returns-then-first-start-clause-held g c rows order others seq k k_lt size_is all is kept holds =
    let lanes = g.T.Stored.lanes in
    let count = g.row.N in
    let start = c.args.start in
    let first = c.args.first in
    let steps = c.args.jobs + 8 in
    let front = c.args.kept.front in
    let in_new = c.requires.kept in
    let few = c.requires.few in
    let inside = c.requires.start in
    let table_long = c.requires.table in
    let table = c.args.table.now in
    let made = c.copy_within.new.self in
    let long = c.copy_within.ensures.len in
    let is_copied = c.copy_within.ensures.by_index in
    let moved = column count (map lanes (part_from first steps count made)) k in
    let at_front : (step : ℕ) → step < front + 8
    → moved step ≡ column count (map lanes (part_from start steps count table)) k step =
    λ step lt.
    let after = step_after count step (front + 8) lt in
    let in_start : (start + (front + 8)) * count ≤ (c.args.jobs + steps) * count = mul-le-mul_right count (omega arith) in
    let in_first : (first + (front + 8)) * count ≤ (c.args.jobs + steps) * count = mul-le-mul_right count (omega arith) in
    let here : start * count + ((first + step) * count + k - first * count) ≡ (start + step) * count + k = omega arith in
    part_step lanes count first steps made k step k_lt (omega arith)
    ∙ copied lanes table made ((first + step) * count + k) ((start + step) * count + k)
    (λ d. is_copied.0 ((first + step) * count + k) d (omega arith) (omega arith) ∙ ap (λ i. get_or table i d) here)
    (omega arith) (omega arith)
    ∙ sym (part_step lanes count start steps table k step k_lt (omega arith)) in
    elim c.if-kept-eq0.branch [
      | then-kept-eq0 w ↦
          rw (w.end-is) (outside_front others seq holds kept is (held_len holds) size_is all holds.steps k_lt moved at_front)
      | else-kept-eq0 w ↦ elim (c.requires.moved c.if-first-start.true) [
        | inl none ↦ absurd (w.if-kept-eq0.false none)
        | inr grown ↦
            let more = c.args.new - c.args.old in
            rw (w.end-is) (outside_moved others seq holds kept is (held_len holds) size_is all holds.steps
            k_lt steps moved grown.1 (omega arith) at_front
            (λ step le lt.
            let here : first + step ≡ start + (step - more) = omega (arith, grown.2) in
            let past : (first + (front + 8)) * count ≤ (first + step) * count = mul-le-mul_right count (omega arith) in
            part_step lanes count first steps made k step k_lt lt
            ∙ unchanged lanes table made ((first + step) * count + k)
            (λ d. is_copied.2 ((first + step) * count + k) d (omega arith)) long
            ∙ ap (column count (map lanes table) k) here
            ∙ sym (part_step lanes count start steps table k (step - more) k_lt (omega arith)))
            (λ step le lt. absurd (omega arith)))
      ]
    ]

pub returns-then-kept-eq0-2-clause-held : goal.returns-then-kept-eq0-2-clause-held
returns-then-kept-eq0-2-clause-held g c rows order others seq k k_lt size_is all is kept holds =
    let old = c.args.old in
    let new = c.args.new in
    let back = c.args.kept.back in
    let at : c.args.first ≡ c.args.start = omega (arith, c.if-first-start.false) in
    let greater = c.max.ensures in
    elim c.then-kept-eq0-2.either [
      | inl none ↦
          let to : c.max.result - back ≡ max old new = omega arith in
          rw (at, to) (outside_none others seq holds kept is (held_len holds) size_is all holds.steps k_lt)
      | inr no_more ↦
          let to : c.max.result - back ≡ old - back = omega arith in
          rw (at, to) (outside_kept others seq holds kept is (held_len holds) size_is all holds.steps k_lt no_more.1)
    ]

pub copy_within-requires-2-clause-dest_in_bounds : goal.copy_within-requires-2-clause-dest_in_bounds
copy_within-requires-2-clause-dest_in_bounds g c =
    let count = g.row.N in
    let start = c.args.start in
    let old = c.args.old in
    let new = c.args.new in
    let back = c.args.kept.back in
    let begin = old - back + 8 in
    let to = new - back + 8 in
    let in_both = c.requires.kept in
    let few = c.requires.few in
    let longer = c.if-new-old.false in
    let end = ap (λ n. n * count) (let e : start + old + 8 ≡ start + begin + back = omega arith in e) in
    let new_end = ap (λ n. n * count) (let e : start + new + 8 ≡ start + to + back = omega arith in e) in
    let inside : (start + new + 8) * count ≤ (2 * c.args.jobs + 8) * count =
    mul-le-mul_right count (omega (arith, c.requires.start)) in
    let table_long = c.requires.table in
    let all : (start + to) * count + ((start + old + 8) * count - (start + begin) * count) ≤ length c.args.table.now = omega arith in
    all

pub returns-clause-held : goal.returns-clause-held
returns-clause-held g c rows order others seq k k_lt size_is all is kept holds =
    let lanes = g.T.Stored.lanes in
    let count = g.row.N in
    let start = c.args.start in
    let steps = c.args.jobs + 8 in
    let old = c.args.old in
    let new = c.args.new in
    let back = c.args.kept.back in
    let by = new - old in
    let begin = old - back + 8 in
    let to = new - back + 8 in
    let in_both = c.requires.kept in
    let few = c.requires.few in
    let longer = c.if-new-old.false in
    let end = ap (λ n. n * count) (let e : start + old + 8 ≡ start + begin + back = omega arith in e) in
    let new_end = ap (λ n. n * count) (let e : start + new + 8 ≡ start + to + back = omega arith in e) in
    let inside : (start + new + 8) * count ≤ (2 * c.args.jobs + 8) * count =
    mul-le-mul_right count (omega (arith, c.requires.start)) in
    let shorter : (start + old + 8) * count ≤ (start + new + 8) * count = mul-le-mul_right count (omega arith) in
    let table_long = c.requires.table in
    let table = c.args.table.now in
    let made = c.copy_within-2.new.self in
    let long = c.copy_within-2.ensures.len in
    let is_copied = c.copy_within-2.ensures.by_index in
    let at : c.args.first ≡ start = omega (arith, c.if-first-start.false) in
    rw (at) (outside_moved others seq holds kept is (held_len holds) size_is all holds.steps k_lt (new + 8)
    (column count (map lanes (part_from start steps count made)) k) (omega arith) (omega arith)
    (λ step lt.
    let after = step_after count (start + step) (start + to) (omega arith) in
    part_step lanes count start steps made k step k_lt (omega arith)
    ∙ unchanged lanes table made ((start + step) * count + k)
    (λ d. is_copied.1 ((start + step) * count + k) d (omega arith)) long
    ∙ sym (part_step lanes count start steps table k step k_lt (omega arith)))
    (λ step le lt.
    let s = step - to in
    let there = ap (λ n. n * count) (let e : start + step ≡ start + to + s = omega arith in e) in
    let from = ap (λ n. n * count) (let e : start + (step - by) ≡ start + begin + s = omega arith in e) in
    let after = step_after count (start + step) (start + new + 8) (omega arith) in
    let source = step_after count (start + (step - by)) (start + old + 8) (omega arith) in
    let here : (start + begin) * count + ((start + step) * count + k - (start + to) * count)
    ≡ (start + (step - by)) * count + k = omega arith in
    part_step lanes count start steps made k step k_lt (omega arith)
    ∙ copied lanes table made ((start + step) * count + k) ((start + (step - by)) * count + k)
    (λ d. is_copied.0 ((start + step) * count + k) d (omega arith) (omega arith) ∙ ap (λ i. get_or table i d) here)
    (omega arith) (omega arith)
    ∙ sym (part_step lanes count start steps table k (step - by) k_lt (omega arith)))
    (λ step le lt.
    let more : (start + new + 8) * count ≤ (start + step) * count = mul-le-mul_right count (omega arith) in
    part_step lanes count start steps made k step k_lt lt
    ∙ unchanged lanes table made ((start + step) * count + k)
    (λ d. is_copied.2 ((start + step) * count + k) d (omega arith)) long
    ∙ sym (part_step lanes count start steps table k step k_lt lt)))
