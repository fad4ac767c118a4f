use Rattle.std.proofs.Common.{rules}
use Rattle.pfs_desk.proofs.HeadlineLemmas.{solves}
use Rattle.pfs_desk.proofs.engines.solve.run_solve.Goals as goal

pub returns-in_err-instance-clause-solves : goal.returns-in_err-instance-clause-solves
returns-in_err-instance-clause-solves g c =
    solves _ _ _ _ _ _ _ c.requires.some (search rules) (search rules) (search rules)

pub returns-in_err-take-clause-solves : goal.returns-in_err-take-clause-solves
returns-in_err-take-clause-solves g c =
    solves _ _ _ _ _ _ _ c.requires.some (search rules) (search rules) (search rules)

pub returns-in_err-solution-clause-solves : goal.returns-in_err-solution-clause-solves
returns-in_err-solution-clause-solves g c =
    solves _ _ _ _ _ _ _ c.requires.some (search rules) (search rules) (search rules)

pub returns-in_err-put_solution-clause-solves : goal.returns-in_err-put_solution-clause-solves
returns-in_err-put_solution-clause-solves g c =
    solves _ _ _ _ _ _ _ c.requires.some (search rules) (search rules) (search rules)

pub returns-clause-solves : goal.returns-clause-solves
returns-clause-solves g c =
    solves _ _ _ _ _ _ _ c.requires.some (search rules) (search rules) (search rules)
