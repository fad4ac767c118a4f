use Rattle.std.proofs.Common.{false, arith}
use Rattle.std.proofs.Math.ListN.{length-set}
use Rattle.pfs_exact.proofs.GrownEnds.{cleared_none, cleared_more}
use Rattle.pfs_exact.proofs.ends.clear.Goals as goal

pub loop-place-init : goal.loop-place-init
loop-place-init c = record { every = omega arith; cleared = cleared_none c.args.marks.now }

pub loop-place-preserved : goal.loop-place-preserved
loop-place-preserved c = record {
  every = omega (arith, length-set c.loop-place.marks c.at.result false);
  cleared = cleared_more c.args.seq.now.jobs c.loop-place.place c.at.result c.args.marks.now c.loop-place.marks (omega arith)
      c.at.ensures.value (omega arith) c.loop-place.invariant.cleared;
}
