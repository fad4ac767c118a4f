use Rattle.std.proofs.Common.{refl}
use Rattle.pfs_wave.proofs.MixedLemmas.{known_room}
use Rattle.pfs_wave.proofs.mixed.Mixed.has_room.Goals as goal

pub returns-then-has_room : goal.returns-then-has_room
returns-then-has_room c is shop some are =
    let tables = c.args.self.now in
    known_room shop tables.last c.args.jobs.now c.args.time some are.last
    (c.if-has_room.ensures.0 refl)

pub returns-else-has_room : goal.returns-else-has_room
returns-else-has_room c is shop some are =
    let tables = c.args.self.now in
    known_room shop tables.kept c.args.jobs.now c.args.time some are.kept
    (c.has_room-else-has_room.ensures.0 is)
