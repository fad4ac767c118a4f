use Rattle.std.proofs.Common.{◌∙◌}
use Rattle.pfs_wave.proofs.EightLanes.{lanes_down}
use Rattle.pfs_wave.proofs.long.LongBand.down.Goals as goal

pub returns : goal.returns
returns g c = c.of.ensures ∙ lanes_down c.args.self.lanes.values c.args.self.lanes.eight
