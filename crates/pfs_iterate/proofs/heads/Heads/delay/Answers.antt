use Rattle.pfs_iterate.proofs.heads.Heads.delay.Goals as goal

pub returns : goal.returns
returns c = rw c.deref.ensures.value at c.delay_at.ensures
