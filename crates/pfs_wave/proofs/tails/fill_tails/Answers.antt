use Rattle.std.proofs.Common.{suc, ◌≡◌, ◌+◌, ◌-◌, ◌*◌, ◌++◌, length, map, take, drop, ap, ◌∙◌, sym, refl, arith}
use Rattle.std.proofs.lemmas.List.{length-drop, length-replicate, length-take-le}
use Rattle.std.proofs.Math.Seq.{drop-append_seam}
use borrow.Rule.Slice.PartMut.{put_mid}
use Rattle.pfs_wave.specs.Private.Blocks.{vectors_of}
use Rattle.pfs_wave.proofs.PutParts.{put_front, put_long}
use Rattle.pfs_wave.proofs.StepTables.{part_read, part_written, step_after}
use Rattle.pfs_wave.proofs.TailCells.{tails_filled_none, tails_filled_more}
use Rattle.pfs_wave.proofs.tails.fill_tails.Goals as goal

pub loop-left-init : goal.loop-left-init
loop-left-init g c =
    let lanes = g.V.Band.lanes in
    let count = g.row.N in
    let at = c.args.steps * count in
    let table = c.args.tails.now in
    let written = c.copy_from_slice.new.self in
    let all = c.requires.tails in
    let n_is : length table - at ≡ count = omega arith in
    let long : length written ≡ count =
    omega (
      arith,
      c.copy_from_slice.ensures.len,
      length-take-le (length table - at) (drop at table)
          (omega (arith, length-drop at table)),
    ) in
    record {
      long = put_long at (length table - at) table written (omega arith) (omega arith);
      now_long = length-replicate count c.zeros-first.result;
      cells = λ time tail are last held.
          tails_filled_none g.V.Band.Holds g.V.Band.itself lanes count c.args.steps tail c.zeros-first.result _
          c.requires.some c.zeros-first.ensures last
          (λ k lt. part_written lanes count c.args.steps at (length table - at) table refl written n_is (omega arith)
          long k lt
          ∙ ap (λ l. vectors_of (map lanes l) k) c.copy_from_slice.ensures.after);
    }

pub loop-left-preserved : goal.loop-left-preserved
loop-left-preserved g c =
    let lanes = g.V.Band.lanes in
    let kept = g.V.Times.Stored.lanes in
    let count = g.row.N in
    let steps = c.args.steps in
    let left = c.loop-left.left in
    let inside = c.loop-left-test.true in
    let times = c.args.times.now in
    let step = steps - 1 - left in
    let at = step * count in
    let n = at + count - at in
    let next : suc step * count ≡ at + count = omega arith in
    let made = c.step_tails-first.ensures in
    let row = c.step_tails-first.new.row in
    let split = c.split_at_mut-rows.ensures in
    let rows = c.split_at_mut-rows.result.0.now in
    let back = c.split_at_mut-rows.result.1.now in
    let table = c.loop-left.tails in
    let long = c.loop-left.invariant.long ∙ c.requires.tails in
    let room = step_after count step steps (omega arith) in
    let row_long = made.row_length in
    let is : put_mid at (length rows - at) rows row ++ back ≡ put_mid at count table row =
    put_front at count rows back row split.front_len ∙ ap (λ l. put_mid at count l row) (sym split.value) in
    let after_is : back ≡ drop (at + count) table =
    sym (ap (drop (at + count)) split.value ∙ ap (λ i. drop i (rows ++ back)) (sym split.front_len)
    ∙ drop-append_seam rows back) in
    record {
      long = ap length is ∙ put_long at count table row (omega arith) row_long ∙ c.loop-left.invariant.long;
      now_long = made.length;
      cells = λ time tail are last held.
          rw is (tails_filled_more g.V.Band.Holds g.V.Band.itself lanes count steps time tail (map kept times) table
          c.loop-left.now
          c.step_tails-first.new.now row (lanes c.loop-left.first) (lanes c.step_tails-first.result)
          (vectors_of (map kept (take n (drop at times)))) (vectors_of (map lanes (take count back))) left step at are
          held
          (c.loop-left.invariant.cells time tail are last held) inside refl long refl row_long
          (λ k lt. part_read kept count step at n times refl k (omega arith))
          (λ k lt. ap (λ l. vectors_of (map lanes (take count l)) k) after_is
          ∙ part_read lanes count (suc step) (at + count) count table (sym next) k lt) made.tails);
    }

pub returns-clause-tails : goal.returns-clause-tails
returns-clause-tails g c rows machines time tail paid of are last held step lt =
    let outside = c.loop-left-test.false in
    (c.loop-left.invariant.cells time tail are last held).tails_are step (omega arith) (omega arith)
