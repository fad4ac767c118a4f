use Rattle.std.proofs.Common.{◌≡◌, length, map, ap, ◌∙◌, arith, rules}
use Rattle.std.proofs.lemmas.List.{length-map}
use Rattle.pfs_order.proofs.Published.Sequences.{length-all_jobs}
use Rattle.pfs_search.specs.Ranking.{ranking}
use Rattle.pfs_search.proofs.OneRanking.{IsSequence-ranking, length-ranking}
use Rattle.pfs_search.proofs.SortedJobs.{Listed, sorted_ranking}
use Rattle.pfs_search.proofs.rankings.rank_jobs.Goals as goal

pub copy_jobs-requires : goal.copy_jobs-requires
copy_jobs-requires g c =
    let shop = g.B.Bench.shop c.args.bench.now in
    let count = ap length c.list_totals.ensures.totals.jobs_are in
    let each = length-map c.list_totals.new.listed.items (λ (entry : Listed). entry.1) in
    record { room = omega (arith, length-all_jobs shop.jobs) }

pub returns-clause-ranking : goal.returns-clause-ranking
returns-clause-ranking g c =
    let shop = g.B.Bench.shop c.args.bench.now in
    let totals = c.list_totals.ensures.totals in
    let ranked : c.copy_jobs.new.jobs.items ≡ ranking shop =
    c.copy_jobs.ensures.jobs ∙ ap (map (λ (entry : Listed). entry.1)) c.deref.ensures.value
    ∙ sorted_ranking shop c.list_totals.new.listed.items c.sort_jobs.new.listed.items
    totals.jobs_are totals.totals_are c.sort_jobs.ensures.permutation c.sort_jobs.ensures.sorted in
    record {
      ranking_is = ranked;
      sequence = rw ranked (IsSequence-ranking shop);
      kept = record { count_is = omega (arith, ap length ranked, length-ranking shop); room = search rules };
    }
