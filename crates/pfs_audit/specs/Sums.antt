-- Sums and least times of the jobs of a flow shop, machine by machine. Jobs and machines count from 0.
use Rattle.std.specs.Prelude.{◌≡◌, ◌+◌, ◌-◌}
use Rattle.pfs_base.specs.FlowShop.{FlowShop}
use Rattle.pfs_base.specs.Heads.{AreOf}
use Rattle.pfs_audit.specs.Bound.{greatest_total, least_on, load_of}
use Rattle.pfs_audit.specs.declared.bounds.Sums.{Sums}

-- the sums of all jobs
pub record AreSums (shop : FlowShop) (sums : Sums) : Type 0 where
  pub longest : sums.longest ≡ greatest_total shop
  pub before : AreOf (least_on shop 0) shop.machines sums.before
  pub load : AreOf (load_of shop) shop.machines sums.load
  pub after : AreOf (λ machine. least_on shop (machine + 1) (shop.machines - (machine + 1))) shop.machines sums.after
