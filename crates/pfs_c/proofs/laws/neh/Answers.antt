use Rattle.std.proofs.Common.{refl, arith}
use Rattle.std.proofs.lemmas.List.Sorted.{length_permutation}
use Rattle.pfs_order.specs.Sequence.{all_jobs}
use Rattle.pfs_order.proofs.Published.Sequences.{length-all_jobs}
use Rattle.pfs_search.specs.Ranking.{ranking}
use Rattle.pfs_c.proofs.laws.neh.Goals as goal

pub returns : goal.returns
returns c = λ shop order span built. record {
  found = built.found;
  all = omega (
    arith,
    built.long,
    length_permutation (all_jobs shop.jobs) (ranking shop) (c.ranking.ensures shop).ranking.all,
    length-all_jobs shop.jobs,
  );
  distinct = built.distinct;
  spanned = built.spanned;
  counted = refl;
}
