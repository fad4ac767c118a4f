use Rattle.std.proofs.Common.{◌+◌, length, ap, ◌∙◌, arith}
use Rattle.pfs_wave.specs.Private.Lanes.{capped_add}
use Rattle.pfs_wave.specs.Wavefront.{HoldsCapped}
use Rattle.pfs_wave.proofs.LaneSteps.{capped_sum, each_lane}
use Rattle.pfs_wave.proofs.Steps.{length-zip}
use Rattle.pfs_wave.proofs.short.ShortBand.sum.Goals as goal

pub invariant_of-result : goal.invariant_of-result
invariant_of-result c =
    let a = c.args.self.values in
    let b = c.args.other.values in
    let long = c.args.self.eight in
    record {
      eight =
          ap length c.saturating_sum-values.ensures
          ∙ length-zip 8 (capped_add 65535) a b (omega arith) c.args.other.eight;
    }

pub returns : goal.returns
returns c =
    each_lane (HoldsCapped 65535) (capped_add 65535) (λ a b. a + b) (capped_sum 65535) c.args.self.values
    c.args.other.values c.saturating_sum-values.ensures c.args.self.eight c.args.other.eight
