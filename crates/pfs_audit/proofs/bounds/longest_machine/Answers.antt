use Rattle.std.proofs.Common.{◌+◌, ◌-◌, arith}
use Rattle.pfs_audit.specs.Bound.{machine_bound}
use Rattle.pfs_audit.proofs.Published.Ranges.{greatest-range-more}
use Rattle.pfs_audit.proofs.Published.SumLemmas.{least_among-is, least_among-le, load_among-le}
use Rattle.pfs_audit.proofs.bounds.longest_machine.Goals as goal

pub loop-machine-preserved : goal.loop-machine-preserved
loop-machine-preserved c =
    let shop = c.args.instance.now.shop in
    let machine = c.loop-machine.machine in
    let more = greatest-range-more (machine_bound shop) machine in
    let here = c.requires.before.values machine (omega arith) in
    let load = c.requires.load.values machine (omega arith) in
    let there = c.requires.after.values machine (omega arith) in
    omega arith

pub overflow_add-sums : goal.overflow_add-sums
overflow_add-sums c =
    let shop = c.args.instance.now.shop in
    let machine = c.loop-machine.machine in
    let within = c.machines-machine-end.ensures.within in
    let here = c.requires.before.values machine (omega arith) in
    let load = c.requires.load.values machine (omega arith) in
    let sizes = within.sizes in
    let first = least_among-is shop within shop.jobs 0 machine sizes.some_job (omega (arith, sizes)) in
    let small = least_among-le shop shop.jobs 0 machine in
    let short = load_among-le shop within shop.jobs machine in
    omega arith

pub overflow_add-sums-in-loop-machine : goal.overflow_add-sums-in-loop-machine
overflow_add-sums-in-loop-machine c =
    let shop = c.args.instance.now.shop in
    let machine = c.loop-machine.machine in
    let within = c.machines-machine-end.ensures.within in
    let here = c.requires.before.values machine (omega arith) in
    let load = c.requires.load.values machine (omega arith) in
    let there = c.requires.after.values machine (omega arith) in
    let sizes = within.sizes in
    let first = least_among-is shop within shop.jobs 0 machine sizes.some_job (omega (arith, sizes)) in
    let small = least_among-le shop shop.jobs 0 machine in
    let short = load_among-le shop within shop.jobs machine in
    let last = least_among-is shop within shop.jobs (machine + 1) (shop.machines - (machine + 1)) sizes.some_job
    (omega (arith, sizes)) in
    let rest = least_among-le shop shop.jobs (machine + 1) (shop.machines - (machine + 1)) in
    omega arith
