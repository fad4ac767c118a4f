use Rattle.std.proofs.Common.{◌≡◌, ◌≤◌, map, vec_len, vec_capacity}
use Rattle.std.specs.List.{All}
use Rattle.pfs_base.specs.FlowShop.{total_of}
use Rattle.pfs_order.specs.Sequence.{all_jobs}
use Rattle.pfs_search.proofs.rankings.list_totals.Given as goal

abbrev pub invariant-loop-job : goal.invariant-loop-job
invariant-loop-job g l =
    let shop = g.B.Bench.shop l.bench in
    record {
      jobs : map (λ entry. entry.1) l.listed.items ≡ all_jobs l.job;
      totals : All (λ entry. entry.0.0 ≡ total_of shop entry.1) l.listed.items;
      count : vec_len l.listed ≡ l.job;
      capacity : vec_capacity l.fn.listed ≤ vec_capacity l.listed;
    }
