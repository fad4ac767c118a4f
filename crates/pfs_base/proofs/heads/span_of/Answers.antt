use Rattle.pfs_base.specs.declared.limits.TheConstants.{MOST_MACHINES}
use Rattle.pfs_base.proofs.Published.HeadRows.{heads_none}
use Rattle.pfs_base.proofs.heads.span_of.Goals as goal

pub loop-pair-init : goal.loop-pair-init
loop-pair-init c = heads_none c.args.instance.now.shop c.args.sequence.now MOST_MACHINES
    c.machines-machines.ensures.within.sizes.few_machines
