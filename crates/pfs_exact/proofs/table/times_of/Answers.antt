use Rattle.std.proofs.Common.{◌+◌, ◌*◌, ◌<◌, ◌∙◌, arith}
use Rattle.std.proofs.lemmas.List.{length-set}
use Rattle.pfs_exact.proofs.Cells.{times_more}
use Rattle.pfs_exact.proofs.table.times_of.Goals as goal

pub loop-machine-init : goal.loop-machine-init
loop-machine-init c = record {
  long = c.loop-block.invariant.long;
  done = λ all b m lane less. c.loop-block.invariant.done all b m lane (omega arith);
}

pub loop-machine-preserved : goal.loop-machine-preserved
loop-machine-preserved c =
    let shop = c.args.instance.now.shop in
    let at = c.loop-machine in
    let block = c.loop-block.block in
    let machine = at.machine in
    let long = at.invariant.long in
    let few = c.machines-machine-end.ensures.value in
    let inside : machine < shop.machines = omega arith in
    record {
      long = length-set at.times.items (64 * block + machine) c.eight_times.result ∙ long;
      done = λ all. times_more shop block machine at.times.items c.eight_times.result (omega (arith, c.requires.machines)) inside
          (omega arith) (c.eight_times.ensures all) (at.invariant.done all);
    }

pub loop-block-preserved : goal.loop-block-preserved
loop-block-preserved c =
    let few = c.machines-machine-end.ensures.value in
    let most = c.requires.machines in
    record {
      long = c.loop-machine.invariant.long;
      done = λ all b m lane less small. c.loop-machine.invariant.done all b m lane (omega arith) small;
    }

pub returns-clause-times : goal.returns-clause-times
returns-clause-times c =
    let most = c.requires.machines in
    λ all b m lane less small. c.loop-block.invariant.done all b m lane (omega arith) small
