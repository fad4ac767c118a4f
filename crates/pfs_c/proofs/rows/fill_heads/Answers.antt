use Rattle.std.proofs.Common.{◌≡◌, ◌+◌, suc, length, arith}
use Rattle.pfs_base.specs.declared.limits.TheConstants.{MOST_MACHINES}
use Rattle.pfs_base.proofs.Published.HeadRows.{heads_none}
use Rattle.pfs_insert.specs.Exchange.{heaviest_front}
use Rattle.pfs_order.proofs.Published.Sequences.{length-le-size}
use Rattle.pfs_c.proofs.RowSteps.{row_put}
use Rattle.pfs_c.proofs.rows.fill_heads.Goals as goal

pub loop-place-init : goal.loop-place-init
loop-place-init c = record {
  heads = heads_none c.args.instance.now.shop c.args.sequence.now MOST_MACHINES
      c.machines-machines.ensures.within.sizes.few_machines;
  done = λ row machine lt. absurd (omega arith);
}

pub add_head-requires-clause-few : goal.add_head-requires-clause-few
add_head-requires-clause-few c =
    length-le-size c.args.instance.now.shop.jobs c.args.sequence.now c.requires.sequence

pub loop-place-preserved : goal.loop-place-preserved
loop-place-preserved c =
    let at = c.loop-place in
    let shop = c.args.instance.now.shop in
    let jobs = c.args.sequence.now in
    let wide = c.machines-machines.ensures.value in
    let next : at.place + 1 ≡ suc at.place = omega arith in
    record {
      heads = c.add_head.ensures;
      done = λ row machine lt in_row. rw wide (row_put (heaviest_front shop jobs) (length jobs) shop.machines at.place _
          at.table c.add_head.new.heads c.copy_from_slice.new.self c.loop-place-test.true
          (omega (arith, at.auto.table, c.requires.long)) (rw next at c.add_head.ensures) (omega (arith, wide))
          (rw wide at c.copy_from_slice.ensures.after) row machine in_row
          (λ other. at.invariant.done row machine (omega (arith, other)) in_row));
    }
