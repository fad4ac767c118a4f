use Rattle.std.proofs.Common.{map}
use Rattle.pfs_wave.specs.Private.Blocks.{vectors_of}
use Rattle.pfs_wave.proofs.StepTables.{AreCopiedSoFar}
use Rattle.pfs_wave.proofs.vectors.array_of.Given as goal

abbrev pub invariant-loop-k : goal.invariant-loop-k
invariant-loop-k g l =
    AreCopiedSoFar g.V.Band.lanes g.row.N (vectors_of (map g.V.Times.Stored.lanes l.times)) l.array l.k
