use Rattle.std.proofs.Common.{◌≡◌, ◌+◌, ◌-◌, ◌<◌, ◌∙◌, ap, sym, arith}
use Rattle.pfs_insert.specs.Exchange.{heaviest_back}
use Rattle.pfs_order.proofs.Published.Sequences.{length-le-size}
use Rattle.pfs_c.proofs.RowSteps.{from_more, next_tail, tail_from, tail_from-in, tail_from-short, tail_short}
use Rattle.pfs_c.proofs.rows.add_tail.Goals as goal

pub end_after-after-requires : goal.end_after-after-requires
end_after-after-requires c =
    let at = c.loop-machine in
    let shop = c.args.instance.now.shop in
    let jobs = c.args.sequence.now in
    let few = length-le-size shop.jobs jobs c.requires.sequence in
    let wide = c.machines-machine.ensures in
    let all = at.auto.machine in (
      tail_short shop jobs wide.within (c.args.place + 1) (at.machine - 1) _ few (omega (arith, c.requires.place))
          (omega (arith, wide.value, all, c.loop-machine-test.true))
          (at.invariant.tails.to_do (at.machine - 1) (omega (arith, c.loop-machine-test.true))),
      tail_from-short shop jobs wide.within c.args.place at.machine _ few (omega (arith, c.requires.place))
          at.invariant.after,
    )

pub loop-machine-preserved : goal.loop-machine-preserved
loop-machine-preserved c =
    let at = c.loop-machine in
    let shop = c.args.instance.now.shop in
    let jobs = c.args.sequence.now in
    let place = c.args.place in
    let machine = at.machine - 1 in
    let next : at.machine ≡ machine + 1 = omega (arith, c.loop-machine-test.true) in
    let small : machine < shop.machines = omega (arith, c.machines-machine.ensures.value, at.auto.machine, c.loop-machine-test.true) in
    let new : c.end_after-after.result ≡ heaviest_back shop jobs place machine = c.end_after-after.ensures
    ∙ next_tail shop jobs place machine _ at.after _ c.requires.place small
    (at.invariant.tails.to_do machine (omega (arith, c.loop-machine-test.true)))
    (at.invariant.after ∙ ap (tail_from shop jobs place) next) (c.times_of-times.ensures.each machine small) in
    record {
      tails = from_more (heaviest_back shop jobs (place + 1)) (heaviest_back shop jobs place) shop.machines at.machine
          machine _ at.tails next (omega (arith, c.machines-machine.ensures.value, at.auto.machine)) at.invariant.tails new;
      after = new ∙ sym (tail_from-in shop jobs place machine small);
    }
