use Rattle.std.proofs.lemmas.Grind.{common_steps}
use Rattle.std.proofs.Common.{◌∙◌, ap, length, refl, arith}
use Rattle.std.proofs.lemmas.List.{length_push}
use Rattle.pfs_wave.proofs.RowCells.{rows_more}
use Rattle.pfs_wave.proofs.SkewedTimes.{vector_inside}
use Rattle.pfs_wave.proofs.rows.shop_rows.Goals as goal

pub push_reserved-requires : goal.push_reserved-requires
push_reserved-requires g c =
    let so_far = c.loop-k.invariant in
    omega (
      arith,
      so_far.room,
      so_far.long,
      vector_inside c.args.count _ c.loop-job.job c.loop-k.k _ c.loop-job-test.true
          c.loop-k-test.true refl,
    )

pub loop-k-preserved : goal.loop-k-preserved
loop-k-preserved g c =
    let so_far = c.loop-k.invariant in
    let rows = c.loop-k.rows.items in
    let vector = c.job_vector.result in
    let is = c.push_reserved.ensures.items in
    let more = ap length is ∙ length_push rows vector in
    let same_room = c.push_reserved.ensures.capacity in
    let room = so_far.room in
    let long = so_far.long in
    record {
      room = omega arith;
      long = omega arith;
      rows = rw is (rows_more g.T.Stored.lanes c.args.instance.now.shop c.args.count rows c.loop-job.job c.loop-k.k vector
          so_far.rows long c.loop-k-test.true c.job_vector.ensures);
    }

pub returns-clause-rows : goal.returns-clause-rows
returns-clause-rows g c = grind (arith, common_steps)
