use Rattle.pfs_search.proofs.Published.Moves.{pass_law, passes_law}
use Rattle.pfs_search.proofs.laws.pass_no_longer.Goals as goal

pub returns-clause-all : goal.returns-clause-all
returns-clause-all c = pass_law

pub returns-clause-list : goal.returns-clause-list
returns-clause-list c = passes_law
