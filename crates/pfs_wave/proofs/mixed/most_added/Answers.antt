use Rattle.std.proofs.Common.{◌≡◌, arith}
use Rattle.pfs_base.specs.FlowShop.{FlowShop}
use Rattle.pfs_wave.proofs.PartLaws.{after_last_of, alone_makespans}
use Rattle.pfs_wave.proofs.mixed.most_added.Goals as goal

pub returns : goal.returns
returns c =
    let bench = c.args.bench.now in
    let shop : FlowShop = record { jobs = bench.jobs; machines = bench.machines; times = bench.times.now } in
    let outside = c.loop-machine-test.false in
    let some = bench.within.sizes.some_machine in
    let all : c.loop-machine.machine ≡ shop.machines = omega (arith, c.machines-machine-end.ensures) in
    let law = after_last_of shop c.args.jobs.now c.args.job some c.requires.some in
    let are = alone_makespans shop _ c.args.job c.loop-machine.machine c.loop-machine.alone c.loop-machine.both some all
    c.loop-machine.invariant.are in
    omega (arith, are.0, are.1, law, c.loop-machine.invariant.less)
