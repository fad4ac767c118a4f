use Rattle.std.proofs.Common.{ℕ, max, length, ap, ◌∙◌, arith}
use Rattle.pfs_wave.specs.Private.Lanes.{HoldsBelow}
use Rattle.pfs_wave.proofs.LaneSteps.{each_lane}
use Rattle.pfs_wave.proofs.Steps.{length-zip}
use Rattle.pfs_wave.proofs.VectorLemmas.{wide_greater, wide_greater_is, wide_lanes}
use Rattle.pfs_wave.proofs.long.WideBand.greater.Goals as goal

pub invariant_of-result : goal.invariant_of-result
invariant_of-result c =
    let a = c.args.self.values in
    let b = c.args.other.values in
    let long = c.args.self.eight in
    let too = c.args.other.eight in
    record { eight = ap length (wide_lanes 8 a b long too) ∙ length-zip 8 wide_greater a b (omega arith) too }

holds : (n m a b : ℕ) → HoldsBelow 9223372036854775807 n a → HoldsBelow 9223372036854775807 m b
    → HoldsBelow 9223372036854775807 (wide_greater n m) (max a b)
holds n m a b held too small =
    let here = held (omega arith) in
    let there = too (omega arith) in
    wide_greater_is n m (omega arith) (omega arith) ∙ omega arith

pub returns : goal.returns
returns c =
    let a = c.args.self.values in
    let b = c.args.other.values in
    each_lane (HoldsBelow 9223372036854775807) wide_greater max holds a b (wide_lanes 8 a b c.args.self.eight
    c.args.other.eight) c.args.self.eight c.args.other.eight
