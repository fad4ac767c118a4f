use Rattle.std.proofs.Common.{refl, arith, ◌≡◌, ◌+◌, ◌-◌, ◌*◌, ◌%◌}
use Rattle.pfs_wave.proofs.SkewedTimes.{filled_then}
use Rattle.pfs_wave.proofs.times.fill_vectors.Goals as goal

pub loop-turn-preserved : goal.loop-turn-preserved
loop-turn-preserved g c =
    let row = c.args.from + 4 * c.loop-turn.turn in
    let next : c.args.from + 4 * (c.loop-turn.turn + 1) ≡ row + 4 = omega arith in
    record {
      filled = filled_then c.loop-turn.invariant.filled c.fill_some-last.ensures.filled refl (omega arith) (omega arith)
          (omega arith);
      blends = rw next c.fill_some-last.ensures.next;
    }

pub fill_some-requires-clause-last : goal.fill_some-requires-clause-last
fill_some-requires-clause-last g c =
    let rest = (c.args.to - c.args.from) % 4 in
    let same : c.args.to - rest ≡ c.args.from + 4 * c.loop-turn.turn = omega arith in
    rw same c.loop-turn.invariant.blends

pub returns : goal.returns
returns g c = record {
  filled = filled_then c.loop-turn.invariant.filled c.fill_some.ensures.filled (omega arith) (omega arith) (omega arith)
      (omega arith);
}
