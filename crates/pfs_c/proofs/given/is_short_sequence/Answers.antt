use Rattle.pfs_c.proofs.Bits.{bits_start}
use Rattle.pfs_c.proofs.given.is_short_sequence.Goals as goal

pub loop-four-init : goal.loop-four-init
loop-four-init c = bits_start c.args.size c.args.jobs.now
