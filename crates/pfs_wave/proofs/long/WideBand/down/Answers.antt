use Rattle.pfs_wave.proofs.EightLanes.{lanes_down}
use Rattle.pfs_wave.proofs.long.WideBand.down.Goals as goal

pub returns : goal.returns
returns c = lanes_down c.args.self.values c.args.self.eight
