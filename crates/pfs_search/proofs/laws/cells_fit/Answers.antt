use Rattle.pfs_search.proofs.Found.{few_neh_cells, few_rounds_cells}
use Rattle.pfs_search.proofs.laws.cells_fit.Goals as goal

pub returns-clause-neh : goal.returns-clause-neh
returns-clause-neh c = few_neh_cells

pub returns-clause-rounds : goal.returns-clause-rounds
returns-clause-rounds c = few_rounds_cells
