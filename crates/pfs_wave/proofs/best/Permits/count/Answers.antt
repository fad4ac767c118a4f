use Rattle.std.proofs.Common.{arith}
use Rattle.pfs_wave.proofs.ServedPaths.{cells_split}
use Rattle.pfs_wave.proofs.best.Permits.count.Goals as goal

pub count-sums-requires : goal.count-sums-requires
count-sums-requires c =
    let split = cells_split c.args.len c.args.bench.now.machines in
    let tails = rw c.machines-machines.ensures at c.count-tails.ensures.counted in
    record { room = rw c.machines-machines.ensures (omega (arith, tails, split, c.requires.room)) }

pub returns-clause-counted : goal.returns-clause-counted
returns-clause-counted c =
    let split = cells_split c.args.len c.args.bench.now.machines in
    let tails = rw c.machines-machines.ensures at c.count-tails.ensures.counted in
    let sums = rw c.machines-machines.ensures at c.count-sums.ensures.counted in
    omega (arith, tails, sums, split)
