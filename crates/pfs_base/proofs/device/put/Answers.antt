use Rattle.std.proofs.Common.{◌∙◌, arith}
use Rattle.std.proofs.lemmas.List.{take_rest, length-take, length-drop}
use Rattle.pfs_base.proofs.Sent.{Appends_more}
use Rattle.pfs_base.proofs.device.put.Goals as goal

pub loop-done-preserved : goal.loop-done-preserved
loop-done-preserved g c =
    let bytes = c.args.bytes.now in
    let i = c.loop-done.done in
    let wrote = c.in-Some.ensures.bytes in
    record {
      within = omega (arith, simp (length-take, length-drop) at wrote.0);
      working = c.in-Some.ensures.failed ∙ c.loop-done.invariant.working;
      sent_so_far = Appends_more _ _ _ bytes i c.in-Some.n c.loop-done.invariant.sent_so_far (rw take_rest at wrote.1);
    }
