use Rattle.std.proofs.Common.{max, length, ap, ◌∙◌, arith}
use Rattle.pfs_wave.specs.Private.Lanes.{HoldsBelow}
use Rattle.pfs_wave.proofs.LaneSteps.{below_greater, each_lane}
use Rattle.pfs_wave.proofs.Steps.{length-zip}
use Rattle.pfs_wave.proofs.VectorLemmas.{long_greater_is}
use Rattle.pfs_wave.proofs.long.LongBand.greater.Goals as goal

pub of-requires : goal.of-requires
of-requires g c =
    let a = c.args.self.lanes.values in
    let b = c.args.other.lanes.values in
    let long = c.args.self.lanes.eight in
    ap length (long_greater_is a b) ∙ length-zip 8 max a b (omega arith) c.args.other.lanes.eight

pub returns : goal.returns
returns g c =
    let a = c.args.self.lanes in
    let b = c.args.other.lanes in
    each_lane (HoldsBelow 4294967295) max max (below_greater 4294967295) a.values b.values
    (c.of.ensures ∙ long_greater_is a.values b.values) a.eight b.eight
