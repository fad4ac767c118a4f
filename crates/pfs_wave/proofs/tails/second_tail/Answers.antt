use Rattle.std.proofs.Common.{arith}
use Rattle.std.proofs.lemmas.Grind.{common_steps}
use Rattle.pfs_wave.proofs.tails.second_tail.Goals as goal

pub returns : goal.returns
returns g c = grind (arith, common_steps)
