-- Each byte moves the reader forward: a digit changes no block, and a space may end a number.
use Rattle.pfs_layout.proofs.Words.{sym, ◌∙◌, arith, nat_tests, ◌≤◌, LONGEST_TIME, ap, is_blank}
use Rattle.pfs_layout.proofs.Reading.PieceLemmas.{digit_validated, blank_validated, number_validated, machine_ended}
use Rattle.pfs_layout.proofs.Reading.PieceLemmas.{open_value, pair_ended, taken_on, taken_quiet, taken_ready}
use Rattle.pfs_layout.proofs.Reading.PieceLemmas.{taken_used}
use Rattle.pfs_layout.proofs.blocks.Blocks.take_pairs.Goals.{in-Some+else-body, then-body-eq0+else-number-body}
use Rattle.pfs_layout.proofs.blocks.Blocks.take_pairs.Goals.{else-body-eq0+else-body-2, in_default}
use Rattle.pfs_layout.proofs.blocks.Blocks.take_pairs.Goals as goal

pub loop-byte-preserved-then-is_digit : goal.loop-byte-preserved-then-is_digit
loop-byte-preserved-then-is_digit c =
    let inv = c.loop-byte.invariant in
    let digit = sym c.is_digit.ensures ∙ c.if-is_digit.true in
    let taken = taken_quiet inv.taken (omega arith) c.requires.room c.push_digit.ensures.pushes
    (digit_validated inv.taken (rw (digit, inv.plain))) in
    grind (arith, nat_tests, inv, taken, digit, c.push_digit.ensures, c.if-line-from.false)

pub store_time-requires-clause-can : goal.store_time-requires-clause-can
store_time-requires-clause-can c =
    let inv = c.loop-byte.invariant in
    (taken_ready inv.taken (omega arith) c.requires.room c.requires.has_read).can inv.phase

pub loop-byte-preserved : goal.loop-byte-preserved
loop-byte-preserved c =
    let inv = c.loop-byte.invariant in
    let layout = inv.taken.layout ∙ c.requires.layout in
    let blank = ap is_blank c.if-b-ne-SPACE.false in
    elim c.match-number.branch [
      | in-Some+else-body w ↦
          let more = w.if-body.false in
          let is = sym c.number.ensures ∙ w.in-Some.is in
          let short : w.in-Some.number.value ≤ LONGEST_TIME = rw (open_value _ _ is) inv.short in
          elim w.if-body-eq0.branch [
            | then-body-eq0+else-number-body v ↦
                let next = number_validated inv.taken blank is
                (machine_ended _ _ _ inv.phase (omega arith) layout v.if-body-eq0.true v.if-number-body.false) in
                rw (w.self-is, w.body-is, v.self-is, v.body-is) (record {
                  taken = taken_on inv.taken (omega arith) c.requires.room (c.push_blank.ensures.pushes _ blank)
                      (λ well. next) (rw inv.phase);
                  phase = inv.phase;
                  plain = rw c.push_blank.ensures.kinds inv.plain;
                  short = rw c.push_blank.ensures.digits (omega arith);
                })
            | else-body-eq0+else-body-2 v ↦
                let on = v.if-body-2.false in
                let next = number_validated inv.taken blank is
                (pair_ended _ _ _ inv.phase (omega arith) layout v.if-body-eq0.false short (omega arith)) in
                rw (w.self-is, w.body-is, v.self-is, v.body-is) (record {
                  taken = taken_on inv.taken (omega arith) c.requires.room (c.push_blank.ensures.pushes _ blank)
                      (λ well. rw v.store_time.ensures next) (rw (v.store_time.ensures, inv.phase));
                  phase = rw v.store_time.ensures inv.phase;
                  plain = rw c.push_blank.ensures.kinds inv.plain;
                  short = rw c.push_blank.ensures.digits (omega arith);
                })
          ]
      | in_default w ↦
          let taken = taken_quiet inv.taken (omega arith) c.requires.room (c.push_blank.ensures.pushes _ blank)
          (grind (arith, w.in_default) ∙ blank_validated inv.taken blank c.number.ensures) in
          rw (w.self-is, w.body-is) (grind (arith, inv, taken, c.push_blank.ensures))
    ]

pub returns-clause-taken : goal.returns-clause-taken
returns-clause-taken c = taken_used c.loop-byte.invariant.taken
