use Rattle.pfs_insert.proofs.Exchange.{exchange_law}
use Rattle.pfs_insert.proofs.laws.exchange.Goals as goal

pub returns : goal.returns
returns c = exchange_law
