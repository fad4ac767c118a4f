-- The cost of a search, in cells, from the cost of an insertion. The cost of an insertion is a function of the number
-- of jobs with the inserted one, and of the number of machines.
use Rattle.std.specs.Prelude.{◌≡◌, ℕ, ◌+◌, ◌-◌, ◌*◌, ◌≤◌, sum_by}
use Rattle.std.specs.List.{range_with_len}
use Rattle.pfs_base.specs.FlowShop.{FlowShop}
use Rattle.pfs_insert.specs.Insertion.{heads_tails_cost}

-- the cost of `more` insertions, one after another, into a sequence of `before` jobs
abbrev pub insertions_cost : (ℕ → ℕ → ℕ) → ℕ → ℕ → ℕ → ℕ
insertions_cost cost machines before more = sum_by (λ count. cost count machines) (range_with_len (before + 1) more)

-- the cost of NEH: all jobs are inserted
abbrev pub neh_cost : (ℕ → ℕ → ℕ) → ℕ → ℕ → ℕ
neh_cost cost jobs machines = insertions_cost cost machines 0 jobs

-- the cost of a pass: each job is inserted once, among all others
abbrev pub pass_cost : (ℕ → ℕ → ℕ) → ℕ → ℕ → ℕ
pass_cost cost jobs machines = jobs * cost jobs machines

-- the cost of a round that removes `take` jobs and makes `passes` passes: the removed jobs are inserted, and then the
-- passes are made
abbrev pub round_cost : (ℕ → ℕ → ℕ) → ℕ → ℕ → ℕ → ℕ → ℕ
round_cost cost jobs machines take passes =
    insertions_cost cost machines (jobs - take) take + passes * pass_cost cost jobs machines

-- the cost of NEH, of a pass and of a round on a shop
abbrev pub neh_cost_on : (ℕ → ℕ → ℕ) → FlowShop → ℕ
neh_cost_on cost shop = neh_cost cost shop.jobs shop.machines

abbrev pub pass_cost_on : (ℕ → ℕ → ℕ) → FlowShop → ℕ
pass_cost_on cost shop = pass_cost cost shop.jobs shop.machines

abbrev pub round_cost_on : (ℕ → ℕ → ℕ) → FlowShop → ℕ → ℕ → ℕ
round_cost_on cost shop take passes = round_cost cost shop.jobs shop.machines take passes

-- each insertion costs as much as one by heads and tails
abbrev pub CostsAsHeadsTails : (ℕ → ℕ → ℕ) → Type 0
CostsAsHeadsTails cost = (count machines : ℕ) → 1 ≤ count → cost count machines ≡ heads_tails_cost count machines

-- closed forms of the cost of NEH, of a pass, and of a round that removes `take` jobs and makes `passes` passes; and an
-- upper bound on the cost of `count` such rounds
pub record HasClosedCosts (cost : ℕ → ℕ → ℕ) : Type 0 where
  pub neh : (jobs machines : ℕ) → neh_cost cost jobs machines ≡ 2 * machines * (jobs * jobs)
  pub pass : (jobs machines : ℕ) → pass_cost cost jobs machines ≡ jobs * machines * (4 * jobs - 2)
  pub round : (jobs machines take passes : ℕ) → take ≤ jobs
      → round_cost cost jobs machines take passes
      ≡ 2 * take * machines * (2 * jobs - take) + passes * jobs * machines * (4 * jobs - 2)
  pub rounds : (count jobs machines take passes : ℕ) → take ≤ jobs
      → count * round_cost cost jobs machines take passes ≤ count * (take + passes * jobs) * machines * (4 * jobs - 2)

-- where each insertion costs as much as by heads and tails, the closed forms are right
abbrev pub CostsLaw : Type 0
CostsLaw = (cost : ℕ → ℕ → ℕ) → CostsAsHeadsTails cost → HasClosedCosts cost
