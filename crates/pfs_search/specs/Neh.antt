-- NEH (Nawaz, Enscore, Ham 1983): the jobs by decreasing total time, inserted one after another, each at its best
-- place.
use Rattle.std.specs.Prelude.{ℕ, List, [], fold}
use Rattle.pfs_base.specs.FlowShop.{FlowShop}
use Rattle.pfs_insert.specs.Insertion.{with_job}
use Rattle.pfs_search.specs.Ranking.{ranking}

-- a sequence after more jobs are inserted one after another, each at its best place
abbrev pub with_jobs : FlowShop → List ℕ → List ℕ → List ℕ
with_jobs shop jobs more = fold (with_job shop) jobs more

-- NEH's order: the jobs of the ranking, inserted into the empty sequence
abbrev pub neh_order : FlowShop → List ℕ
neh_order shop = with_jobs shop [] (ranking shop)
