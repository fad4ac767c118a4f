use Rattle.std.proofs.Common.{map}
use Rattle.pfs_wave.specs.Private.Blocks.{vectors_of}
use Rattle.pfs_wave.proofs.TailCells.{AreStepTails}
use Rattle.pfs_wave.proofs.tails.step_tails.Given as goal

abbrev pub invariant-loop-passed : goal.invariant-loop-passed
invariant-loop-passed g l =
    let lanes = g.V.Band.lanes in
    let kept = g.V.Times.Stored.lanes in
    AreStepTails g.V.Band.Holds lanes g.row.N (vectors_of (map kept l.times)) (vectors_of (map lanes l.after))
    (lanes l.fn.first) l.now l.row (lanes l.tail) l.passed
