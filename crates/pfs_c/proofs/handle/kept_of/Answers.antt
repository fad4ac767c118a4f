use Rattle.pfs_c.proofs.Returning.{allocated}
use Rattle.pfs_c.proofs.handle.kept_of.Goals as goal

pub returns-clause-rejected : goal.returns-clause-rejected
returns-clause-rejected c = allocated _ _ _ _ c.in_ok-validate_shop.ensures.validated
