use Rattle.std.proofs.Common.{arith}
use Rattle.std.proofs.lemmas.Grind.{common_steps}
use Rattle.pfs_wave.proofs.rows.zero_vectors.Goals as goal

pub loop-vector-preserved : goal.loop-vector-preserved
loop-vector-preserved g c = grind (arith, common_steps)
