use Rattle.pfs_search.proofs.Found.{longer_search_law}
use Rattle.pfs_search.proofs.Parts.{searched_law}
use Rattle.pfs_search.proofs.laws.longer_search.Goals as goal

pub returns-clause-order : goal.returns-clause-order
returns-clause-order c = searched_law

pub returns-clause-joined : goal.returns-clause-joined
returns-clause-joined c = longer_search_law
