use Rattle.std.proofs.Common.{rules}
use Rattle.pfs_c.proofs.kept.Kept.new.Goals as goal

pub invariant_of-result : goal.invariant_of-result
invariant_of-result c = record {
  within = search rules;
  iterated = search rules;
  span = λ known. absurd cc;
  batch = search rules;
}
