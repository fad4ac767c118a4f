use Rattle.std.proofs.Common.{arith}
use Rattle.pfs_search.proofs.Found.{insertion_fits}
use Rattle.pfs_search.proofs.search.Search.best.Goals as goal

pub best-requires-clause-room : goal.best-requires-clause-room
best-requires-clause-room c =
    let bench = c.args.bench.now in
    omega (arith, insertion_fits _ c.args.jobs.now bench.within c.requires.sequence, c.requires.room)
