-- The first fault in the arguments of `pfs_prove`, and what it returns.
use Rattle.std.specs.Prelude.{◌≡◌, ℕ, ◌+◌, ◌<◌, ◌≤◌, List, [], ◌∷◌, length, nat_le, Option}
use Rattle.pfs_audit.specs.Bound.{bound_of, IsLowerBound}
use Rattle.pfs_base.specs.FlowShop.{FlowShop}
use Rattle.pfs_base.specs.Lists.{first_some}
use Rattle.pfs_base.specs.Paths.{makespan}
use Rattle.pfs_exact.specs.declared.prove.TheConstants.{MOST_PROVED_JOBS, MOST_PROVED_MACHINES}
use Rattle.pfs_exact.specs.MostNodes.{most_nodes}
use Rattle.pfs_order.specs.Sequence.{IsSequence}
use Rattle.pfs_c.specs.declared.numbers.CallFault.{CallFault}
use Rattle.pfs_c.specs.declared.numbers.CallFault.TheVariants.{Size}
use Rattle.pfs_c.specs.Validation.{unless, length_fault, jobs_fault}

-- `start` is the order to start from
abbrev pub prove_fault : FlowShop → List ℕ → Option CallFault
prove_fault shop start = first_some (length_fault (length start) shop.jobs ∷ jobs_fault shop.jobs start
    ∷ unless (nat_le shop.jobs MOST_PROVED_JOBS) Size ∷ unless (nat_le shop.machines MOST_PROVED_MACHINES) Size ∷ [])

-- a search from an order, by a number of nodes, has found an order of all jobs with its makespan and a number that no
-- order is shorter than; they are equal unless the nodes are used up, of which there are not more than `most_nodes`
pub record IsProved (shop : FlowShop) (start : List ℕ) (nodes : ℕ) (order : List ℕ) (span bound left : ℕ) : Type 0 where
  pub sequence : IsSequence shop.jobs order
  pub full : length order ≡ shop.jobs
  pub exact : span ≡ makespan shop order
  pub no_longer : span ≤ makespan shop start
  pub low : IsLowerBound shop bound
  pub raised : bound_of shop ≤ bound
  pub ended : bound < span → left ≡ 0
  pub budget : left ≤ nodes
  pub few : nodes ≤ left + most_nodes shop.jobs
