use Rattle.pfs_order.proofs.Published.Sequences.{IsSequence-nil}
use Rattle.pfs_c.proofs.asking.faulty_place.Goals as goal

pub loop-place-init : goal.loop-place-init
loop-place-init c = IsSequence-nil c.args.size
