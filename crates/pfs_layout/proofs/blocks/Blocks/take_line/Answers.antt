-- Each byte moves the reader forward, and the last one ends the line, the piece or the reading.
use Rattle.pfs_layout.proofs.Words.{sym, ◌∙◌, arith}
use Rattle.pfs_layout.proofs.Reading.PieceLemmas.{digit_validated, blank_validated, taken_ready, taken_quiet, taken_on}
use Rattle.pfs_layout.proofs.Reading.PieceLemmas.{taken_end, taken_used}
use Rattle.pfs_layout.proofs.Reading.ByteSteps.{keeps_last}
use Rattle.pfs_layout.proofs.blocks.Blocks.take_line.Goals as goal

-- ---- a digit that changes no block

pub loop-b-preserved-then-not-line : goal.loop-b-preserved-then-not-line
loop-b-preserved-then-not-line c =
    let digit = sym c.is_digit.ensures ∙ c.if-is_digit.true in
    taken_quiet c.loop-b.invariant (omega arith) c.requires.room c.push_digit.ensures.pushes
    (digit_validated c.loop-b.invariant (rw (digit, c.if-not-line.true)))

-- ---- a blank

pub loop-b-preserved-then-is_none : goal.loop-b-preserved-then-is_none
loop-b-preserved-then-is_none c =
    let blank = sym c.is_blank.ensures ∙ c.if-is_blank.true in
    taken_quiet c.loop-b.invariant (omega arith) c.requires.room (c.push_blank.ensures.pushes _ blank)
    (grind arith ∙ blank_validated c.loop-b.invariant blank c.number-number.ensures)

pub end_last_number-requires : goal.end_last_number-requires
end_last_number-requires c = taken_ready c.loop-b.invariant (omega arith) c.requires.room c.requires.has_read

pub loop-b-preserved-then-is_blank : goal.loop-b-preserved-then-is_blank
loop-b-preserved-then-is_blank c =
    let blank = sym c.is_blank.ensures ∙ c.if-is_blank.true in
    taken_on c.loop-b.invariant (omega arith) c.requires.room (c.push_blank.ensures.pushes _ blank)
    (λ well. c.end_last_number.ensures ∙ blank_validated c.loop-b.invariant blank c.number-number.ensures)
    (sym c.is_live.ensures ∙ c.if-not-is_live.false)

-- ---- any other byte

pub after-requires-clause-ready : goal.after-requires-clause-ready
after-requires-clause-ready c = taken_ready c.loop-b.invariant (omega arith) c.requires.room c.requires.has_read

pub loop-b-preserved : goal.loop-b-preserved
loop-b-preserved c =
    taken_on c.loop-b.invariant (omega arith) c.requires.room c.push.ensures c.after.ensures.well
    (sym c.is_live-else-not-line-2.ensures ∙ c.if-not-is_live-2.false)

-- ---- after the last byte

pub returns-clause-on : goal.returns-clause-on
returns-clause-on c live =
    let room = c.requires.room in
    elim c.loop-b-test.branch [
      | goal.else-loop-b-test w ↦ rw (w.self-is, w.line-is) (taken_used c.loop-b.invariant)
      | goal.then-loop-b-test+then-is_blank+else-is_none+then-not-is_live w ↦
          let dead = sym w.is_live.ensures ∙ w.if-not-is_live.true in
          absurd (cc (rw w.self-is at live))
      | goal.then-loop-b-test+else-is_blank+else-is_digit+then-not-line-2 w ↦
          rw (w.self-is, w.line-is) (taken_used (taken_on c.loop-b.invariant (omega arith) room w.push.ensures
          w.after.ensures.well (rw w.self-is at live)))
    ]

pub returns-clause-end : goal.returns-clause-end
returns-clause-end c dead =
    let room = c.requires.room in
    elim c.loop-b-test.branch [
      | goal.else-loop-b-test w ↦ absurd (let live = c.loop-b.invariant.live in cc (rw w.self-is at dead))
      | goal.then-loop-b-test+then-is_blank+else-is_none+then-not-is_live w ↦
          let blank = sym w.is_blank.ensures ∙ w.if-is_blank.true in
          let on = w.push_blank.ensures.pushes _ blank in
          rw (w.self-is, w.line-is) (taken_end c.loop-b.invariant (omega arith) room on
          (λ well. w.end_last_number.ensures ∙ blank_validated c.loop-b.invariant blank w.number-number.ensures)
          (λ lacks. absurd ((keeps_last _ _ c.loop-b.invariant.live).memory (rw w.end_last_number.ensures at lacks))))
      | goal.then-loop-b-test+else-is_blank+else-is_digit+then-not-line-2 w ↦
          rw (w.self-is, w.line-is) (taken_end c.loop-b.invariant (omega arith) room w.push.ensures
          w.after.ensures.well w.after.ensures.memory)
    ]
