use Rattle.std.proofs.Common.{map, ◌∙◌, arith}
use Rattle.std.proofs.lemmas.List.{length-replicate}
use Rattle.pfs_wave.specs.Private.Blocks.{vectors_of}
use Rattle.pfs_wave.proofs.StepTables.{copied_more, read_as}
use Rattle.pfs_wave.proofs.vectors.array_of.Goals as goal

pub loop-k-init : goal.loop-k-init
loop-k-init g c = record {
  long = length-replicate g.row.N c.zeros-array.result;
  same = λ k lt. absurd (omega arith);
}

pub loop-k-preserved : goal.loop-k-preserved
loop-k-preserved g c =
    let kept = g.V.Times.Stored.lanes in
    let times = c.args.times.now in
    let all = c.requires in
    let inside = c.loop-k-test.true in
    copied_more g.V.Band.lanes g.row.N (vectors_of (map kept times)) c.loop-k.array c.loop-k.k c.load.result
    c.loop-k.invariant (omega arith)
    (c.load.ensures ∙ read_as kept times c.loop-k.k c.index-times-k.result (omega arith) c.index-times-k.is)
