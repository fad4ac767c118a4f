-- What construction and local search find, and which of their arguments are invalid.
use Rattle.std.specs.Prelude.{◌≡◌, ℕ, ◌+◌, ◌-◌, ◌≤◌, List, [], ◌∷◌, ◌++◌, length, take, nat_eq, nat_le, Option}
use Rattle.std.specs.List.{list_all, list_any}
use Rattle.pfs_base.specs.FlowShop.{FlowShop}
use Rattle.pfs_base.specs.Lists.{first_some}
use Rattle.pfs_base.specs.Paths.{makespan}
use Rattle.pfs_order.specs.Sequence.{IsSequence}
use Rattle.pfs_search.specs.Greedy.{passes_over}
use Rattle.pfs_search.specs.Neh.{with_jobs}
use Rattle.pfs_search.specs.Ranking.{ranking}
use Rattle.pfs_search.specs.Solution.{neh_cells, IsNeh}
use Rattle.pfs_c.specs.declared.numbers.CallFault.{CallFault}
use Rattle.pfs_c.specs.declared.numbers.CallFault.TheVariants.{Job, Length}
use Rattle.pfs_c.specs.Validation.{unless, length_fault, jobs_fault}
use Rattle.pfs_c.specs.Searching.{passes_fault}

-- ---- what is found

-- a sequence with more jobs, each inserted at its first best place in turn, and the makespan
pub record IsConstructed (shop : FlowShop) (sequence more order : List ℕ) (span : ℕ) : Type 0 where
  pub found : order ≡ with_jobs shop sequence more
  -- it has each job once
  pub long : length order ≡ length sequence + length more
  pub distinct : IsSequence shop.jobs order
  pub spanned : span ≡ makespan shop order

-- a sequence after passes over a list of its jobs, and the makespan
pub record IsLocalSearch (shop : FlowShop) (sequence list : List ℕ) (passes : ℕ) (order : List ℕ) (span : ℕ)
    : Type 0 where
  pub found : order ≡ passes_over shop list passes sequence
  -- it has each job once
  pub long : length order ≡ length sequence
  pub distinct : IsSequence shop.jobs order
  -- the makespan is no longer than that of the sequence before the passes
  pub spanned : span ≡ makespan shop order
  pub no_longer : span ≤ makespan shop sequence

-- ---- invalid arguments

-- with room for a result of this length; the jobs to insert are validated after those of the sequence
abbrev pub construct_fault : FlowShop → List ℕ → List ℕ → ℕ → Option CallFault
construct_fault shop sequence more room = first_some (length_fault room (length sequence + length more)
    ∷ jobs_fault shop.jobs sequence ∷ jobs_fault shop.jobs (sequence ++ more) ∷ [])

-- the sequence in the front of an order, which has room for it and for more jobs
abbrev pub in_front : List ℕ → List ℕ → List ℕ
in_front more order = take (length order - length more) order

abbrev pub add_fault : FlowShop → List ℕ → List ℕ → Option CallFault
add_fault shop more order = first_some (unless (nat_le (length more) (length order)) Length
    ∷ jobs_fault shop.jobs (in_front more order) ∷ jobs_fault shop.jobs (in_front more order ++ more) ∷ [])

-- a job of a list is not in the sequence
abbrev pub members_fault : List ℕ → List ℕ → Option CallFault
members_fault sequence list = unless (list_all (λ job. list_any (nat_eq job) sequence) list) Job

abbrev pub local_search_fault : FlowShop → List ℕ → List ℕ → ℕ → Option CallFault
local_search_fault shop sequence list passes = first_some (jobs_fault shop.jobs sequence
    ∷ jobs_fault shop.jobs list ∷ members_fault sequence list ∷ passes_fault passes ∷ [])

-- ---- laws

-- NEH inserts the ranking into the empty sequence
abbrev pub NehLaw : Type 0
NehLaw = (shop : FlowShop) (order : List ℕ) (span : ℕ) → IsConstructed shop [] (ranking shop) order span
    → IsNeh shop order span (neh_cells shop)
