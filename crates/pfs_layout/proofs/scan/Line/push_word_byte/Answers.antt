use Rattle.pfs_layout.proofs.Words.{arith, nat_tests}
use Rattle.pfs_layout.proofs.Reading.ReaderSteps.{line_push}
use Rattle.pfs_layout.proofs.scan.Line.push_word_byte.Goals as goal

pub returns-clause-pushes : goal.returns-clause-pushes
returns-clause-pushes c b word =
    let blank = c.push_blank.ensures in
    line_push (grind (arith, blank.digits)) (grind (arith, nat_tests, blank.digits))
    (grind (arith, nat_tests, blank.digits)) (grind (arith, nat_tests, blank.kinds))
    (grind (arith, nat_tests, blank.kinds))

pub returns-clause-blank : goal.returns-clause-blank
returns-clause-blank c b is_blank has_word =
    let blank = c.push_blank.ensures in
    line_push (grind (arith, blank.digits)) (grind (arith, nat_tests, blank.digits))
    (grind (arith, nat_tests, blank.digits)) (grind (arith, nat_tests, blank.kinds))
    (grind (arith, nat_tests, blank.kinds))
