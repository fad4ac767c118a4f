use Rattle.pfs_layout.proofs.Words.{arith, refl, nat_tests}
use Rattle.pfs_layout.proofs.Reading.ReaderSteps.{line_push}
use Rattle.pfs_layout.proofs.scan.Line.push_digit.Goals as goal

pub returns-clause-pushes : goal.returns-clause-pushes
returns-clause-pushes c =
    let digit = c.requires.digit in
    line_push refl (grind (arith, digit)) (grind (arith, digit, c.min-self.ensures)) (grind (arith, nat_tests, digit))
    (grind (arith, nat_tests, digit))
