use Rattle.std.proofs.Common.{w32, arith}
use Rattle.pfs_wave.proofs.Steps.{length-zip}
use Rattle.pfs_wave.proofs.VectorLemmas.{wrapped_sum}
use Rattle.pfs_wave.proofs.long.LongBand.sum.Goals as goal

pub of-requires : goal.of-requires
of-requires g c =
    let a = c.args.self.lanes.values in
    let b = c.args.other.lanes.values in
    let long = c.args.self.lanes.eight in
    length-zip 8 (wrapped_sum w32) a b (omega arith) c.args.other.lanes.eight
