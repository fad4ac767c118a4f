use Rattle.std.proofs.Common.{◌-◌, ◌∙◌, length}
use Rattle.pfs_base.proofs.Published.Ends.{reads_on}
use Rattle.pfs_order.proofs.InputLemmas.{read_more, read_within}
use Rattle.pfs_order.proofs.reading.fill.Goals as goal

pub loop-filled-preserved : goal.loop-filled-preserved
loop-filled-preserved g c =
    let (few, bytes, ends) = c.in-Some.ensures.bytes in
    let buffer = c.loop-filled.buffer in
    let room = length buffer - c.loop-filled.filled in
    let within = c.loop-filled.invariant.within in
    record {
      within = read_within c.loop-filled.filled room c.in-Some.n buffer c.read.new.buf within few;
      working = c.in-Some.ensures.failed ∙ c.loop-filled.invariant.working;
      no_end = c.in-Some.ensures.ended ∙ reads_on _ c.in-Some.n _ c.if-n-eq0.false ∙ c.loop-filled.invariant.no_end;
      bytes = read_more (g.R.Source.left c.args.reader.now) (g.R.Source.left c.loop-filled.reader) _
          c.loop-filled.filled room c.in-Some.n buffer c.read.new.buf within few c.loop-filled.invariant.bytes bytes;
    }
