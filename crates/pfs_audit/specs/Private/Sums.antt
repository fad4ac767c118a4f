-- Sums and least times of the first jobs of a flow shop, machine by machine. Jobs and machines count from 0.
use Rattle.std.specs.Prelude.{◌≡◌, ℕ, ◌+◌, ◌-◌, min, map, fold, sum_by}
use Rattle.pfs_base.specs.FlowShop.{FlowShop, time_of, total_of}
use Rattle.pfs_base.specs.Heads.{AreOf}
use Rattle.pfs_base.specs.Paths.{greatest}
use Rattle.pfs_order.specs.Sequence.{all_jobs}
use Rattle.pfs_audit.specs.Bound.{time_on}
use Rattle.pfs_audit.specs.declared.bounds.Sums.{Sums}
use Rattle.pfs_audit.specs.declared.bounds.TheConstants.{LONGEST_TOTAL}

-- the least time that one of the first jobs takes on `many` machines, beginning with `from`, but at most the
-- longest total; for no jobs, the longest total
abbrev pub least_among : FlowShop → ℕ → ℕ → ℕ → ℕ
least_among shop jobs from many = fold min LONGEST_TOTAL (map (time_on shop from many) (all_jobs jobs))

-- the sum of the times of the first jobs on a machine
abbrev pub load_among : FlowShop → ℕ → ℕ → ℕ
load_among shop jobs machine = sum_by (λ job. time_of shop job machine) (all_jobs jobs)

-- the sums of the first jobs
pub record AreSumsOf (shop : FlowShop) (jobs : ℕ) (sums : Sums) : Type 0 where
  pub longest : sums.longest ≡ greatest (map (total_of shop) (all_jobs jobs))
  pub before : AreOf (least_among shop jobs 0) shop.machines sums.before
  pub load : AreOf (load_among shop jobs) shop.machines sums.load
  pub after :
      AreOf (λ machine. least_among shop jobs (machine + 1) (shop.machines - (machine + 1))) shop.machines sums.after
