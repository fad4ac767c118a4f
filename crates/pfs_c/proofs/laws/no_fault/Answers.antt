use Rattle.pfs_c.proofs.FaultLaws.{insertion_law, shop_law}
use Rattle.pfs_c.proofs.Jobs.{jobs_right}
use Rattle.pfs_c.proofs.laws.no_fault.Goals as goal

pub returns-clause-shop : goal.returns-clause-shop
returns-clause-shop c = shop_law

pub returns-clause-jobs : goal.returns-clause-jobs
returns-clause-jobs c = jobs_right

pub returns-clause-insertion : goal.returns-clause-insertion
returns-clause-insertion c = insertion_law
