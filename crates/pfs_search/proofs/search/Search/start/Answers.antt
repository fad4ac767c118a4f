use Rattle.std.proofs.Common.{arith}
use Rattle.pfs_base.specs.FlowShop.{FlowShop}
use Rattle.pfs_base.proofs.Published.Heads.{none_longer}
use Rattle.pfs_search.proofs.search.Search.start.Goals as goal

pub length-self-requires : goal.length-self-requires
length-self-requires c =
    let bench = c.args.bench.now in
    let shop : FlowShop = record { jobs = bench.jobs; machines = bench.machines; times = bench.times.now } in
    let short = none_longer shop c.args.jobs.now bench.within (omega (arith, c.requires.full)) in
    omega (arith, short, c.requires.span, c.with-paid.ensures)
