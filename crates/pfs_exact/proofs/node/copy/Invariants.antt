use Rattle.std.proofs.Common.{◌≡◌, get_or}
use Rattle.pfs_base.proofs.Published.Partly.{Partly}
use Rattle.pfs_exact.proofs.node.copy.Given as goal

abbrev pub invariant-loop-at : goal.invariant-loop-at
invariant-loop-at l = Partly (λ at number. number ≡ get_or l.from at 0) l.many l.at l.fn.to l.to
