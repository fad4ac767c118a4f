-- Each turn reads on in the piece, and the last one ends it or the reading.
use Rattle.pfs_layout.proofs.Words.{◌-◌, ◌+◌, ◌≡◌, arith, sym, ◌∙◌, length-take}
use Rattle.std.proofs.lemmas.List.{length-drop, take_rest}
use Rattle.pfs_layout.proofs.Reading.PieceLemmas.{taken_read, taken_more, taken_then}
use Rattle.pfs_layout.proofs.blocks.Blocks.take.Goals as goal

pub take_numbers-at-requires-clause-has_read : goal.take_numbers-at-requires-clause-has_read
take_numbers-at-requires-clause-has_read c = taken_read c.loop-at.invariant.taken c.requires.has_read

pub take_words-at-requires-clause-has_read : goal.take_words-at-requires-clause-has_read
take_words-at-requires-clause-has_read c =
    let numbers = taken_more c.loop-at.invariant.taken (rw take_rest at c.take_numbers-at.ensures.taken) in
    taken_read numbers c.requires.has_read

pub take_line-at-requires-clause-has_read : goal.take_line-at-requires-clause-has_read
take_line-at-requires-clause-has_read c =
    let numbers = taken_more c.loop-at.invariant.taken (rw take_rest at c.take_numbers-at.ensures.taken) in
    let words = taken_more numbers (rw take_rest at c.take_words-at.ensures.taken) in
    taken_read words c.requires.has_read

pub loop-at-preserved : goal.loop-at-preserved
loop-at-preserved c =
    let numbers = taken_more c.loop-at.invariant.taken (rw take_rest at c.take_numbers-at.ensures.taken) in
    let words = taken_more numbers (rw take_rest at c.take_words-at.ensures.taken) in
    let live = sym c.is_live.ensures ∙ c.if-not-is_live.false in
    let first = simp (length-take, length-drop) at c.take_numbers-at.ensures.within in
    let second = simp (length-take, length-drop) at c.take_words-at.ensures.within in
    let then = simp (length-take, length-drop) at c.take_line-at.ensures.within in
    record {
      within = omega (arith, c.loop-at.invariant.within, first, second, then);
      taken = taken_more words (rw take_rest at (c.take_line-at.ensures.on live));
    }

pub returns-then-not-is_live-clause-meets : goal.returns-then-not-is_live-clause-meets
returns-then-not-is_live-clause-meets c text s =
    let numbers = taken_more c.loop-at.invariant.taken (rw take_rest at c.take_numbers-at.ensures.taken) in
    let words = taken_more numbers (rw take_rest at c.take_words-at.ensures.taken) in
    let dead = sym c.is_live.ensures ∙ c.if-not-is_live.true in
    let used : c.take_line-at.new.last.digits.offset - c.args.last.now.digits.offset
    ≡ c.loop-at.at + c.take_numbers-at.result + c.take_words-at.result + c.take_line-at.result =
    omega (arith, words.offset, c.take_line-at.ensures.moved) in
    rw used (taken_then words (λ text s. rw take_rest at (c.take_line-at.ensures.end dead text s)) text s)
