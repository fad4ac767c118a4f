use Rattle.std.proofs.Common.{w64, arith}
use Rattle.pfs_wave.proofs.Steps.{length-zip}
use Rattle.pfs_wave.proofs.VectorLemmas.{wrapped_sum}
use Rattle.pfs_wave.proofs.long.WideBand.sum.Goals as goal

pub invariant_of-result : goal.invariant_of-result
invariant_of-result c =
    let a = c.args.self.values in
    let b = c.args.other.values in
    let long = c.args.self.eight in
    record { eight = length-zip 8 (wrapped_sum w64) a b (omega arith) c.args.other.eight }
