-- The ranking of jobs by total time.
use Rattle.std.specs.Prelude.{◌≡◌, ℕ, ◌<◌, ◌⊎◌, Bool, ◌&&◌, ◌||◌, List, [], ◌∷◌, fold, nat_lt, nat_eq, if◌then◌else◌}
use Rattle.std.specs.List.{AllPairs}
use Rattle.std.specs.List.Sorted.{IsPermutation}
use Rattle.pfs_base.specs.FlowShop.{FlowShop, total_of}
use Rattle.pfs_order.specs.Sequence.{all_jobs}

-- a job has a greater total than another, or an equal total and a lower number
abbrev pub RanksBefore : FlowShop → ℕ → ℕ → Type 0
RanksBefore shop job other =
    (total_of shop other < total_of shop job) ⊎ ((total_of shop job ≡ total_of shop other) × (job < other))

-- the list has all jobs, and each is ranked before all jobs after it
pub record IsRanking (shop : FlowShop) (jobs : List ℕ) : Type 0 where
  pub all : IsPermutation (all_jobs shop.jobs) jobs
  pub ranked : AllPairs (RanksBefore shop) jobs

-- whether a job ranks before another (`RanksBefore`), as a test
abbrev pub ranks_before : FlowShop → ℕ → ℕ → Bool
ranks_before shop job other =
    nat_lt (total_of shop other) (total_of shop job)
    || (nat_eq (total_of shop job) (total_of shop other) && nat_lt job other)

-- ranked jobs and one more, which goes directly before the first job that it ranks before
abbrev pub ranked_with : FlowShop → List ℕ → ℕ → List ℕ
ranked_with shop [] job = job ∷ []
ranked_with shop (other ∷ others) job =
    if ranks_before shop job other then job ∷ other ∷ others else other ∷ ranked_with shop others job

-- the ranking of all jobs, computed by adding them by increasing number
abbrev pub ranking : FlowShop → List ℕ
ranking shop = fold (ranked_with shop) [] (all_jobs shop.jobs)

-- the list is a ranking, and no other list is one
pub record IsOnlyRanking (shop : FlowShop) (jobs : List ℕ) : Type 0 where
  pub ranking : IsRanking shop jobs
  pub only : (others : List ℕ) → IsRanking shop others → others ≡ jobs

-- for each shop exactly one list is a ranking, and `ranking` computes it
abbrev pub RankingLaw : Type 0
RankingLaw = (shop : FlowShop) → IsOnlyRanking shop (ranking shop)
