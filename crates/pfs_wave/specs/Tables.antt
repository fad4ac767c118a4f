-- The tables of a shop's insertions in lanes.
use Rattle.std.specs.Prelude.{◌≡◌, ◌<◌, ◌≤◌}
use Rattle.pfs_base.specs.FlowShop.{FlowShop}
use Rattle.pfs_base.specs.Paths.{greatest}
use Rattle.pfs_wave.specs.Private.Blocks.{BlockRows, FitsLanes, longest_path}
use Rattle.pfs_wave.specs.Private.Mixed.{IsMixed}
use Rattle.pfs_wave.specs.declared.mixed.Mixed.{Mixed}
use Rattle.pfs_wave.specs.declared.tables.LaneTables.{LaneTables}
use Rattle.pfs_wave.specs.declared.tables.Wave.TheVariants as wave

-- the tables are those of a shop: the smallest lanes that every path of the shop fits in, mixed where no time is above
-- 65,535
pub record HasLanes (shop : FlowShop) (tables : LaneTables) : Type 0 where
  pub short : (blocks : BlockRows) → tables.wave ≡ wave.Short blocks → FitsLanes shop 65535 blocks
  pub mixed : (mixed : Mixed) → tables.wave ≡ wave.Mixed mixed
      → (65535 ≤ longest_path shop) × (greatest shop.times ≤ 65535) × IsMixed shop mixed
  pub long : (blocks : BlockRows) → tables.wave ≡ wave.Long blocks
      → (65535 < greatest shop.times) × FitsLanes shop 4294967295 blocks
  pub wide : (blocks : BlockRows) → tables.wave ≡ wave.Wide blocks
      → (4294967295 ≤ longest_path shop) × FitsLanes shop 9223372036854775807 blocks
