use Rattle.std.proofs.Common.{◌∙◌, replicate, arith}
use Rattle.std.proofs.lemmas.List.{get_or-replicate, get_or-take}
use Rattle.pfs_iterate.proofs.heads.times_at.Goals as goal

pub returns-else-place-jobs-clause-end : goal.returns-else-place-jobs-clause-end
returns-else-place-jobs-clause-end c = λ machine lt past.
    let sizes = c.machines.ensures.within.sizes in
    get_or-take c.machines.result (replicate 200 0) machine 0 (omega (arith, lt, c.machines.ensures.value))
    ∙ get_or-replicate 200 machine 0 0 (omega (arith, lt, sizes))
