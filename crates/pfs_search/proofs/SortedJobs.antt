-- Jobs that are sorted by decreasing total, and at equal totals by number, are ranked.
use Rattle.std.proofs.Common.{Ordering, ◌≡◌, ◌≢◌, ℕ, ◌+◌, ◌<◌, length, List, [], ◌∷◌, ◌++◌, map, get_or, false, sym}
use Rattle.std.proofs.Common.{arith}
use Rattle.std.specs.Cmp.{IsStrictWeakOrder}
use Rattle.std.specs.List.{All, AllPairs}
use Rattle.std.specs.List.Sorted.{IsPermutation, IsSorted}
use Rattle.std.specs.Ordering.{is_lt, nat_cmp, ordering_then}
use Rattle.std.specs.declared.cmp.Reverse.{Reverse}
use Rattle.std.proofs.lemmas.Bool.Decides.{nat_tests, Decides-eqb}
use Rattle.std.proofs.lemmas.Cmp.{nat_cmp_total, on_total, then_total, back_total}
use Rattle.std.proofs.lemmas.List.{get_or-map, length-map, map-append}
use Rattle.std.proofs.lemmas.List.Sorted.{IsPermutation-map, All-permutation, ranks_by, sorted_far}
use Rattle.std.proofs.lemmas.Map.Made.{AllPairs-from_IsDistinct}
use Rattle.pfs_base.specs.FlowShop.{FlowShop, total_of}
use Rattle.pfs_order.specs.Sequence.{all_jobs}
use Rattle.pfs_order.proofs.Published.Sequences.{IsSequence-permutation, all_jobs_more}
use Rattle.pfs_search.specs.Ranking.{RanksBefore, ranking}
use Rattle.pfs_search.proofs.OneRanking.{IsSequence-all_jobs, ranking_is, ranking_unique}

-- a pair of a job's total, in decreasing order, and the job
abbrev pub Listed : Type 0
Listed = Reverse ℕ × ℕ

abbrev listed_cmp : Listed → Listed → Ordering
listed_cmp x y = ordering_then (nat_cmp y.0.0 x.0.0) (nat_cmp x.1 y.1)

listed_order : IsStrictWeakOrder (λ x y. is_lt (listed_cmp x y))
listed_order =
    ranks_by (then_total (on_total (λ (x : Listed). x.0.0) (back_total nat_cmp_total))
    (on_total (λ (x : Listed). x.1) nat_cmp_total)) (λ (x : Listed). x)

-- one more job is listed with its total
pub listed_more : (listed : List Listed) (total job : ℕ) → map (λ entry. entry.1) listed ≡ all_jobs job
    → map (λ entry. entry.1) (listed ++ (record { 0 = total }, job) ∷ []) ≡ all_jobs (job + 1)
listed_more listed total job so_far =
    rw (map-append (λ (entry : Listed). entry.1) listed, so_far) (sym (all_jobs_more job))

-- of two different jobs, the one that is sorted first ranks before the other
sorted_ranks : (shop : FlowShop) (total other_total job other : ℕ)
    → total ≡ total_of shop job → other_total ≡ total_of shop other → job ≢ other
    → is_lt (ordering_then (nat_cmp total other_total) (nat_cmp other job)) ≡ false → RanksBefore shop job other
sorted_ranks shop total other_total job other is other_is apart test = grind (arith, nat_tests)

-- all jobs, listed with their totals and sorted, are the ranking
pub sorted_ranking : (shop : FlowShop) (listed sorted : List Listed)
    → map (λ entry. entry.1) listed ≡ all_jobs shop.jobs
    → All (λ entry. entry.0.0 ≡ total_of shop entry.1) listed → IsPermutation listed sorted → IsSorted listed_cmp sorted
    → map (λ entry. entry.1) sorted ≡ ranking shop
sorted_ranking shop listed sorted same totals moved up =
    let job = λ (entry : Listed). entry.1 in
    let all : IsPermutation (all_jobs shop.jobs) (map job sorted) =
    rw same at (IsPermutation-map job listed sorted moved) in
    let sequence = IsSequence-permutation shop.jobs _ (map job sorted) all (IsSequence-all_jobs shop.jobs) in
    let apart = AllPairs-from_IsDistinct Decides-eqb (map job sorted) sequence.distinct in
    let kept = All-permutation (λ (entry : Listed). entry.0.0 ≡ total_of shop entry.1) listed sorted moved totals in
    let ranked : AllPairs (RanksBefore shop) (map job sorted) = λ i j d lt within.
    let none : Listed = (record { 0 = 0 }, 0) in
    let below : j < length sorted = omega (arith, length-map sorted job) in
    let jobs_at = λ (k : ℕ) (small : k < length sorted). get_or-map job sorted k none d small in
    let x = get_or sorted i none in
    let y = get_or sorted j none in
    rw (jobs_at i (omega arith), jobs_at j below)
    (sorted_ranks shop x.0.0 y.0.0 x.1 y.1 (kept i none (omega arith)) (kept j none below)
    (rw (jobs_at i (omega arith), jobs_at j below) at (apart i j d lt within))
    (sorted_far (λ a b. is_lt (listed_cmp a b)) listed_order sorted up i j none (omega arith) below)) in
    ranking_unique shop _ (ranking shop) (record { all = all; ranked = ranked }) (ranking_is shop)
