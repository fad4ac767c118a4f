-- Orders that begin and end with some jobs, how short they can be, and what a node of the search keeps of them. Jobs and
-- machines count from 0.
use Rattle.std.specs.Prelude.{◌≡◌, ℕ, Bool, true, false, ◌+◌, ◌-◌, ◌<◌, ◌≤◌, List, [], ◌∷◌, ◌++◌, length}
use Rattle.std.specs.Prelude.{zero, suc}
use Rattle.std.specs.Prelude.{slice_index, slice_index_or, remove, sum_by, Contains, min, ◌⊎◌, All}
use Rattle.pfs_base.specs.FlowShop.{FlowShop, time_of}
use Rattle.pfs_base.specs.Paths.{makespan}
use Rattle.pfs_order.specs.Sequence.{IsSequence}
use Rattle.pfs_audit.specs.Bound.{time_on, IsLowerBound}
pub use Rattle.pfs_exact.specs.Parts.{IsFull, NoneShorter}
pub use Rattle.pfs_exact.specs.Times.{AreRests, AreStarts, Each, IsRest, IsStart}
use Rattle.pfs_exact.specs.Parts.{IsPart, IsInSome}
use Rattle.pfs_exact.specs.Private.Blocks.{IsTable}
use Rattle.pfs_exact.specs.declared.branch.Work.{Work}
use Rattle.pfs_exact.specs.declared.children.TheConstants.{CLOSED}
use Rattle.pfs_exact.specs.declared.ends.Ends.{Ends}
use Rattle.pfs_exact.specs.declared.node.Node.{Node}

-- the sum of the times of some jobs on a machine
abbrev pub times_on : FlowShop → ℕ → List ℕ → ℕ
times_on shop machine jobs = sum_by (λ job. time_of shop job machine) jobs

-- a job is at neither end
abbrev pub IsOpen : List ℕ → List ℕ → ℕ → Type 0
IsOpen front back job = (Contains front job → ⊥) × (Contains back job → ⊥)

-- ---- bounds on a machine

-- the jobs between take at least this time on the machine
abbrev pub IsLeft : FlowShop → List ℕ → List ℕ → ℕ → ℕ → Type 0
IsLeft shop front back machine time = (middle : List ℕ) → IsFull shop front middle back → time ≤ times_on shop machine middle

-- each job between takes at least this time on the machine; the time is 0 if there is only one
pub record IsLeast (shop : FlowShop) (front back : List ℕ) (machine time : ℕ) : Type 0 where
  pub one : (job : ℕ) → IsFull shop front (job ∷ []) back → time ≡ 0
  pub every : (job : ℕ) → job < shop.jobs → IsOpen front back job → time ≤ time_of shop job machine

abbrev pub AreLeft : FlowShop → List ℕ → List ℕ → List ℕ → Type 0
AreLeft shop front back left = Each (IsLeft shop front back) shop.machines left

abbrev pub AreLeast : FlowShop → List ℕ → List ℕ → List ℕ → Type 0
AreLeast shop front back least = Each (IsLeast shop front back) shop.machines least

pub record IsNode (shop : FlowShop) (front back : List ℕ) (node : Node) : Type 0 where
  pub starts : AreStarts shop front back node.starts
  pub rests : AreRests shop front back node.rests
  pub left : AreLeft shop front back node.left

-- ---- bounds on two machines

-- the jobs' times on `many` machines, beginning with `first`, are at least these
abbrev pub AreAcross : FlowShop → ℕ → ℕ → List ℕ → Type 0
AreAcross shop first many across = (job : ℕ) → slice_index across job ≤ time_on shop first many job

-- from the first start on a machine to the last end on a later one, all jobs take at least this time
abbrev pub IsThrough : FlowShop → ℕ → ℕ → ℕ → Type 0
IsThrough shop first second time = (start rest : ℕ) → IsStart shop [] [] first start → IsRest shop [] [] second rest
    → IsLowerBound shop (start + time + rest)

-- ---- the ends

-- the ends with one more job, after the first jobs or before the last
abbrev pub put_of : Bool → Ends → ℕ → Ends
put_of true ends job = record ends { front = record ends.front { jobs = ends.front.jobs ++ job ∷ [] } }
put_of false ends job = record ends { back = record ends.back { jobs = job ∷ ends.back.jobs } }

-- the ends without the job that was put last
abbrev pub taken_of : Bool → Ends → Ends
taken_of true ends = record ends {
  front = record ends.front { jobs = remove ends.front.jobs (length ends.front.jobs - 1) };
}
taken_of false ends = record ends { back = record ends.back { jobs = remove ends.back.jobs 0 } }

-- the end that grows has a job
abbrev pub IsSome : Bool → Ends → Type 0
IsSome true ends = 1 ≤ length ends.front.jobs
IsSome false ends = 1 ≤ length ends.back.jobs

-- both ends are of this many jobs, and no job is in both
pub record AreEnds (size : ℕ) (ends : Ends) : Type 0 where
  pub front : ends.front.size ≡ size
  pub back : ends.back.size ≡ size
  pub sequence : IsSequence size (ends.front.jobs ++ ends.back.jobs)

-- the marks are those of before, without those of these jobs
pub record AreCleared (jobs : List ℕ) (before after : List Bool) : Type 0 where
  pub kept : (job : ℕ) → (Contains jobs job → ⊥) → slice_index_or after job false ≡ slice_index_or before job false
  pub cleared : (job : ℕ) → Contains jobs job → slice_index_or after job false ≡ false
  pub fewer : (job : ℕ) → slice_index_or after job false ≡ true → slice_index_or before job false ≡ true

-- the marks of the jobs at neither end
pub record AreOpen (size : ℕ) (ends : Ends) (marks : List Bool) : Type 0 where
  pub marked : (job : ℕ) → job < size → IsOpen ends.front.jobs ends.back.jobs job → slice_index_or marks job false ≡ true
  pub only : (job : ℕ) → job < size → slice_index_or marks job false ≡ true → IsOpen ends.front.jobs ends.back.jobs job

-- the orders with one more job at an end, and a number that none of them is shorter than
abbrev pub IsChild : FlowShop → Ends → Bool → ℕ → ℕ → Type 0
IsChild shop ends forward job number =
    NoneShorter shop (put_of forward ends job).front.jobs (put_of forward ends job).back.jobs number

-- such a number for each of `many` jobs that is at neither end; those of the others are `CLOSED`
pub record AreBounds (shop : FlowShop) (ends : Ends) (forward : Bool) (many : ℕ) (bounds : List ℕ) : Type 0 where
  pub every : shop.jobs ≤ length bounds
  pub low : (job : ℕ) → job < many → IsOpen ends.front.jobs ends.back.jobs job
      → IsChild shop ends forward job (slice_index bounds job)
  pub closed : (job : ℕ) → job < many → slice_index bounds job < CLOSED
      → IsOpen ends.front.jobs ends.back.jobs job

-- ---- the search

-- with so many jobs between, those that are left besides the first one: at each node the children but one
abbrev pub most_more : ℕ → ℕ
most_more zero = 0
most_more (suc jobs) = jobs + most_more jobs

-- the best order has all jobs and this makespan, no order is shorter than the floor, the parts' bounds hold, and the table
-- is the shop's
pub record IsWork (shop : FlowShop) (work : Work) : Type 0 where
  pub ends : AreEnds shop.jobs work.ends
  pub size : work.best.size ≡ shop.jobs
  pub room : work.spare.size ≡ shop.jobs
  pub full : length work.best.jobs ≡ shop.jobs
  pub exact : work.makespan ≡ makespan shop work.best.jobs
  pub floor : IsLowerBound shop work.floor
  pub table : IsTable shop work.table
  pub parts : All (IsPart shop) work.parts.items

-- only an order with a makespan below this number is wanted
abbrev pub goal_of : Work → ℕ
goal_of work = min work.makespan work.limit

-- an order is not wanted, or is in a part that is left
abbrev pub IsDone : FlowShop → Work → List ℕ → Type 0
IsDone shop work order = (goal_of work ≤ makespan shop order) ⊎ IsInSome order work.parts.items

-- what holds of all orders of a node
abbrev pub Every : FlowShop → (List ℕ → Type 0) → List ℕ → List ℕ → Type 0
Every shop Is front back = (middle : List ℕ) → IsFull shop front middle back → Is (front ++ (middle ++ back))

-- a search goes on: nothing that is done gets undone, and parts are left only where the nodes are used up
pub record Continues (shop : FlowShop) (before after : Work) : Type 0 where
  pub limit : after.limit ≡ before.limit
  pub no_longer : after.makespan ≤ before.makespan
  pub fewer : after.left ≤ before.left
  pub kept : (order : List ℕ) → IsDone shop before order → IsDone shop after order
  pub parts : 1 ≤ after.left → after.parts.items ≡ before.parts.items

-- the children of a node in a search: the wanted ones have a bound, and the others are done
pub record AreChildren (shop : FlowShop) (ends : Ends) (forward : Bool) (bounds : List ℕ) (work : Work) : Type 0 where
  pub every : shop.jobs ≤ length bounds
  pub low : (job : ℕ) → job < shop.jobs → IsOpen ends.front.jobs ends.back.jobs job
      → slice_index bounds job < goal_of work → IsChild shop ends forward job (slice_index bounds job)
  pub done : (job : ℕ) → job < shop.jobs → IsOpen ends.front.jobs ends.back.jobs job
      → goal_of work ≤ slice_index bounds job
      → Every shop (IsDone shop work) (put_of forward ends job).front.jobs (put_of forward ends job).back.jobs
  pub closed : (job : ℕ) → job < shop.jobs → slice_index bounds job < CLOSED
      → IsOpen ends.front.jobs ends.back.jobs job
