use Rattle.pfs_search.proofs.search.take_lanes.Goals as goal

pub over-requires : goal.over-requires
over-requires c = rw (← c.in-Some.ensures.value) at c.requires
