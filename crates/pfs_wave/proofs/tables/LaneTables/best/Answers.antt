use Rattle.std.proofs.Common.{arith}
use Rattle.pfs_base.specs.FlowShop.{FlowShop}
use Rattle.pfs_order.proofs.Published.Sequences.{length-lt-size}
use Rattle.pfs_wave.proofs.ServedPaths.{best_span}
use Rattle.pfs_wave.proofs.tables.LaneTables.best.Goals as goal

pub length-requires : goal.length-requires
length-requires c =
    let bench = c.args.bench.now in
    let shop : FlowShop = record { jobs = bench.jobs; machines = bench.machines; times = bench.times.now } in
    let few = length-lt-size shop.jobs c.args.job c.args.jobs.now c.requires.job c.requires.absent c.requires.sequence in
    best_span shop c.args.jobs.now c.args.job c.find-best.result.place c.find-best.result.span bench.within few
    (rw c.count-permits.ensures.shop at c.find-best.ensures.best)

pub returns-clause-best : goal.returns-clause-best
returns-clause-best c = rw (c.length.ensures, ← c.count-permits.ensures.shop) c.find-best.ensures.best
