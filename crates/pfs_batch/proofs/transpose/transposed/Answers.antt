use Rattle.std.proofs.Common.{refl}
use Rattle.pfs_batch.proofs.VectorSteps.{eight_lanes}
use Rattle.pfs_batch.proofs.transpose.transposed.Goals as goal

pub returns : goal.returns
returns c =
    rw (
      eight_lanes c.args.a c.requires.abcd.0,
      eight_lanes c.args.b c.requires.abcd.1,
      eight_lanes c.args.c c.requires.abcd.2,
      eight_lanes c.args.d c.requires.abcd.3,
      eight_lanes c.args.e c.requires.efgh.0,
      eight_lanes c.args.f c.requires.efgh.1,
      eight_lanes c.args.g c.requires.efgh.2,
      eight_lanes c.args.h c.requires.efgh.3,
    ) refl
