use Rattle.pfs_order.proofs.Grammar.{more_fault}
use Rattle.pfs_order.proofs.laws.longer_text.Goals as goal

pub returns : goal.returns
returns c = λ text byte more h. more_fault text more byte h
