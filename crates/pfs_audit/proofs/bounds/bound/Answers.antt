use Rattle.std.proofs.Common.{arith}
use Rattle.pfs_audit.proofs.BoundLemmas.{bound_law}
use Rattle.pfs_audit.proofs.bounds.bound.Goals as goal

pub returns-clause-low : goal.returns-clause-low
returns-clause-low c = λ order sequence full.
    let low = bound_law c.args.instance.now.shop order sequence full in omega arith
