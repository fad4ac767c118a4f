use Rattle.std.proofs.Common.{ap, ◌∙◌, arith}
use Rattle.pfs_base.specs.FlowShop.{FlowShop, total_of}
use Rattle.pfs_wave.proofs.PartLaws.{appended_law}
use Rattle.pfs_wave.proofs.mixed.Mixed.fits.Goals as goal

pub returns-then-has_room : goal.returns-then-has_room
returns-then-has_room c is =
    let bench = c.args.bench.now in
    let shop : FlowShop = record { jobs = bench.jobs; machines = bench.machines; times = bench.times.now } in
    let some = c.requires.own.narrow.some in
    omega (
      arith,
      c.has_room.ensures is shop some c.requires.own,
      appended_law shop c.args.jobs.now c.args.job some,
      c.total.ensures,
    )
