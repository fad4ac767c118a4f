-- Rows of tails, as a loop over the machines fills them.
use Rattle.std.specs.Prelude.{ℕ, List}
use Rattle.pfs_base.specs.FlowShop.{FlowShop}
use Rattle.pfs_base.specs.Heads.{AreOf}
use Rattle.pfs_insert.specs.Exchange.{heaviest_back}

-- the numbers begin with the tails of the job at a place; after the last job all are 0
abbrev pub AreTails : FlowShop → List ℕ → ℕ → List ℕ → Type 0
AreTails shop jobs place tails = AreOf (heaviest_back shop jobs place) shop.machines tails
