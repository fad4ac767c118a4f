use Rattle.std.proofs.Common.{◌-◌, length, arith}
use Rattle.pfs_base.specs.declared.limits.TheConstants.{MOST_MACHINES}
use Rattle.pfs_insert.specs.Exchange.{heaviest_back}
use Rattle.pfs_c.proofs.RowSteps.{row_put, tails_none}
use Rattle.pfs_c.proofs.rows.fill_tails.Goals as goal

pub loop-place-init : goal.loop-place-init
loop-place-init c = record {
  tails = tails_none c.args.instance.now.shop c.args.sequence.now MOST_MACHINES
      c.machines-machines.ensures.within.sizes.few_machines;
  done = λ row machine low inside. absurd (omega arith);
}

pub loop-place-preserved : goal.loop-place-preserved
loop-place-preserved c =
    let at = c.loop-place in
    let shop = c.args.instance.now.shop in
    let jobs = c.args.sequence.now in
    let wide = c.machines-machines.ensures.value in
    record {
      tails = c.add_tail.ensures;
      done = λ row machine low inside in_row. rw wide (row_put (heaviest_back shop jobs) (length jobs) shop.machines
          (at.place - 1) _ at.table c.add_tail.new.tails c.copy_from_slice.new.self (omega (arith, low, inside))
          (omega (arith, at.auto.table, c.requires.long)) c.add_tail.ensures (omega (arith, wide))
          (rw wide at c.copy_from_slice.ensures.after) row machine in_row
          (λ other. at.invariant.done row machine (omega (arith, low, other)) inside in_row));
    }
