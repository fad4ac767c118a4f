-- What an instance is to contracts: a flow shop, and the three notes of its file.
use Rattle.pfs_base.specs.FlowShop.{FlowShop}
use Rattle.pfs_base.specs.declared.notes.Notes.{Notes}

pub record Problem : Type 0 where
  pub shop : FlowShop
  pub notes : Notes
