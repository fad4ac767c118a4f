use Rattle.std.proofs.Common.{arith}
use Rattle.pfs_exact.proofs.pairs.through_all.Goals as goal

pub returns-clause-through : goal.returns-clause-through
returns-clause-through c = λ start rest starts rests order sequence full.
    let ahead = c.through_any-ahead.ensures.ahead c.requires.order c.requires.across start rest starts rests order sequence
    full in
    let behind = c.through_any-behind.ensures.behind c.requires.order c.requires.across start rest starts rests order
    sequence full in
    omega (arith, ahead, behind, c.max.ensures)
