-- What a call that counts cells does to a bench.
use Rattle.std.specs.Prelude.{◌≡◌, ℕ, ◌+◌}
use Rattle.pfs_base.specs.FlowShop.{FlowShop}

-- the shop of a bench and its count of cells, before and after a call that counts `cost` cells
pub record Counted (old new : FlowShop) (before after cost : ℕ) : Type 0 where
  pub counted : after ≡ before + cost
  pub shop : new ≡ old
