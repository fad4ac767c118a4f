use Rattle.pfs_layout.proofs.Words.{arith, refl, nat_tests}
use Rattle.pfs_layout.proofs.Reading.ReaderSteps.{line_push}
use Rattle.pfs_layout.proofs.scan.Line.push_blank.Goals as goal

pub returns-clause-pushes : goal.returns-clause-pushes
returns-clause-pushes c b blank =
    line_push refl (grind (arith, nat_tests)) (grind (arith, nat_tests)) (grind (arith, nat_tests))
    (grind (arith, nat_tests))
