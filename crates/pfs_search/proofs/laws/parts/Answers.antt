use Rattle.pfs_search.proofs.Found.{joined_parts_law}
use Rattle.pfs_search.proofs.Parts.{parts_law}
use Rattle.pfs_search.proofs.laws.parts.Goals as goal

pub returns-clause-order : goal.returns-clause-order
returns-clause-order c = parts_law

pub returns-clause-joined : goal.returns-clause-joined
returns-clause-joined c = joined_parts_law
