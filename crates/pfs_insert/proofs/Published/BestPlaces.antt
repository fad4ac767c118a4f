-- The best place of a job gives the least makespan.
use Rattle.std.proofs.Common.{◌≡◌, ℕ, ◌+◌, ◌≤◌, List, length, arith}
use Rattle.pfs_base.specs.FlowShop.{FlowShop}
use Rattle.pfs_base.specs.Paths.{makespan}
use Rattle.pfs_insert.specs.Inserter.{IsBestPlace}
use Rattle.pfs_insert.specs.Insertion.{best_place, makespan_with, with_job, IsFirstLeast}
use Rattle.pfs_insert.specs.Private.BestSoFar.{IsBest}
use Rattle.pfs_insert.proofs.FirstLeast.{best_place_law, best_is}

pub best_place_within : (shop : FlowShop) (jobs : List ℕ) (job : ℕ) → best_place shop jobs job ≤ length jobs
best_place_within shop jobs job = omega (arith, (best_place_law shop jobs job).within)

-- no place gives a shorter makespan
pub best_place_least : (shop : FlowShop) (jobs : List ℕ) (job place : ℕ) → place ≤ length jobs
    → makespan shop (with_job shop jobs job) ≤ makespan_with shop jobs job place
best_place_least shop jobs job place within = (best_place_law shop jobs job).least place (omega arith)

-- the first place of the least makespan is the best place
pub best_place_found : (shop : FlowShop) (jobs : List ℕ) (job : ℕ) {place span : ℕ}
    → IsFirstLeast (makespan_with shop jobs job) (length jobs + 1) place → span ≡ makespan_with shop jobs job place
    → IsBestPlace shop jobs job place span
best_place_found shop jobs job {place} {span} first span_is =
    let best : IsBest (λ (n : ℕ). n) (makespan_with shop jobs job) (length jobs + 1) place span = record {
      first = first;
      value_is = span_is;
    } in
    best_is {number = λ (n : ℕ). n} shop jobs job best
