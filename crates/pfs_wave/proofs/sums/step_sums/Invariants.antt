use Rattle.std.proofs.Common.{map}
use Rattle.pfs_wave.specs.Private.Blocks.{vectors_of}
use Rattle.pfs_wave.proofs.SumCells.{AreStepSums}
use Rattle.pfs_wave.proofs.sums.step_sums.Given as goal

abbrev pub invariant-loop-k : goal.invariant-loop-k
invariant-loop-k g l =
    let lanes = g.V.Band.lanes in
    let kept = g.V.Times.Stored.lanes in
    AreStepSums g.V.Band.Holds lanes g.row.N (vectors_of (map kept l.times)) (vectors_of (map lanes l.tails))
    (vectors_of (map lanes l.job)) (vectors_of (map lanes l.fn.heads)) (lanes l.fn.before.inserted)
    (lanes l.fn.before.sum) l.heads (lanes l.inserted) (lanes l.sum) (lanes l.head) l.k
