-- Each byte moves the reader forward, and changes no block.
use Rattle.pfs_layout.proofs.Words.{sym, ◌∙◌, arith, cases_Bool, get_or, inl, inr, is_blank, ne_eqb, refl}
use Rattle.pfs_layout.proofs.Reading.PieceLemmas.{taken_quiet, taken_used, words_validated}
use Rattle.pfs_layout.proofs.blocks.Blocks.take_words.Goals as goal

pub loop-byte-preserved : goal.loop-byte-preserved
loop-byte-preserved c =
    let inv = c.loop-byte.invariant in
    let pushed = c.push_word_byte.ensures in
    let digit = sym c.is_digit.ensures ∙ c.if-is_digit.false in
    let other = c.if-b-eq-LINE_END.false in
    let same = words_validated inv.taken digit other inv.empty inv.digit in
    let on = taken_quiet inv.taken (omega arith) c.requires.room in
    record {
      taken = elim (cases_Bool (is_blank (get_or c.args.piece.now c.loop-byte.byte-index 0))) [
        | inl blank ↦ on (pushed.blank _ blank inv.word) same
        | inr word ↦ on (pushed.pushes _ (rw (digit, word, ne_eqb _ 10 other))) same
      ];
      empty = pushed.empty;
      word = rw pushed.kinds refl;
      digit = rw pushed.kinds inv.digit;
    }

pub returns-clause-taken : goal.returns-clause-taken
returns-clause-taken c = taken_used c.loop-byte.invariant.taken
