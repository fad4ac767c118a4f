use Rattle.std.proofs.Common.{max, length, ap, ◌∙◌, arith}
use Rattle.pfs_wave.specs.Wavefront.{HoldsCapped}
use Rattle.pfs_wave.proofs.LaneSteps.{capped_greater, each_lane}
use Rattle.pfs_wave.proofs.Steps.{length-zip}
use Rattle.pfs_wave.proofs.VectorLemmas.{short_greater_is}
use Rattle.pfs_wave.proofs.short.ShortBand.greater.Goals as goal

pub invariant_of-result : goal.invariant_of-result
invariant_of-result c =
    let a = c.args.self.values in
    let b = c.args.other.values in
    let long = c.args.self.eight in
    let too = c.args.other.eight in
    record { eight = ap length (short_greater_is a b) ∙ length-zip 8 max a b (omega arith) too }

pub returns : goal.returns
returns c =
    let a = c.args.self.values in
    let b = c.args.other.values in
    each_lane (HoldsCapped 65535) max max (capped_greater 65535) a b (short_greater_is a b) c.args.self.eight
    c.args.other.eight
