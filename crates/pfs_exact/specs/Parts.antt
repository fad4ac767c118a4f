-- What a search of some orders leaves, and how the searches of parts join.
use Rattle.std.specs.Prelude.{◌≡◌, ℕ, ◌+◌, ◌-◌, ◌≤◌, ◌⊎◌, List, [], ◌∷◌, ◌++◌, length, sum_by, All}
use Rattle.pfs_base.specs.FlowShop.{FlowShop}
use Rattle.pfs_base.specs.Paths.{makespan}
use Rattle.pfs_order.specs.Sequence.{IsSequence}
use Rattle.pfs_audit.specs.Bound.{IsLowerBound}
use Rattle.pfs_exact.specs.MostNodes.{most_nodes}
use Rattle.pfs_exact.specs.declared.parts.Part.{Part}

-- the first jobs, those between and the last ones are all jobs
pub record IsFull (shop : FlowShop) (front middle back : List ℕ) : Type 0 where
  pub sequence : IsSequence shop.jobs (front ++ (middle ++ back))
  pub full : length (front ++ (middle ++ back)) ≡ shop.jobs

-- each order of all jobs that begins and ends with these has a makespan of at least this number
abbrev pub NoneShorter : FlowShop → List ℕ → List ℕ → ℕ → Type 0
NoneShorter shop front back number =
    (middle : List ℕ) → IsFull shop front middle back → number ≤ makespan shop (front ++ (middle ++ back))

-- an order begins and ends with the jobs of a part
abbrev pub IsIn : List ℕ → Part → Type 0
IsIn order part = (middle : List ℕ) × (order ≡ part.front.jobs ++ (middle ++ part.back.jobs))

-- an order is in one of the parts
abbrev pub IsInSome : List ℕ → List Part → Type 0
IsInSome order [] = ⊥
IsInSome order (part ∷ parts) = IsIn order part ⊎ IsInSome order parts

-- each order of all jobs that begins and ends with these has a makespan of at least this number, or is in one of the parts
abbrev pub Covers : FlowShop → List ℕ → List ℕ → ℕ → List Part → Type 0
Covers shop front back number parts = (middle : List ℕ) → IsFull shop front middle back
    → (number ≤ makespan shop (front ++ (middle ++ back))) ⊎ IsInSome (front ++ (middle ++ back)) parts

-- the same of the orders of all jobs that are in one of some parts
abbrev pub CoversSome : FlowShop → List Part → ℕ → List Part → Type 0
CoversSome shop parts number more = (order : List ℕ) → IsSequence shop.jobs order → length order ≡ shop.jobs
    → IsInSome order parts → (number ≤ makespan shop order) ⊎ IsInSome order more

-- how many nodes a search of some parts can have
abbrev pub most_of : ℕ → List Part → ℕ
most_of jobs parts = sum_by (λ (part : Part). most_nodes (jobs - (length part.front.jobs + length part.back.jobs))) parts

-- a part has jobs of the shop, none twice, and none of its orders is shorter than its bound
pub record IsPart (shop : FlowShop) (part : Part) : Type 0 where
  pub front : part.front.size ≡ shop.jobs
  pub back : part.back.size ≡ shop.jobs
  pub apart : IsSequence shop.jobs (part.front.jobs ++ part.back.jobs)
  pub low : NoneShorter shop part.front.jobs part.back.jobs part.bound

-- ---- laws

-- where nothing is left of all orders, none is shorter than the number
abbrev pub NothingLeft : Type 0
NothingLeft = (shop : FlowShop) (number : ℕ) → Covers shop [] [] number [] → IsLowerBound shop number

-- what a search of one part left takes the place of the part
abbrev pub PartSearched : Type 0
PartSearched = (shop : FlowShop) (front back : List ℕ) (number less : ℕ) (part : Part) (parts more : List Part)
    → Covers shop front back number (part ∷ parts) → Covers shop part.front.jobs part.back.jobs less more → less ≤ number
    → Covers shop front back less (more ++ parts)

-- a part with a bound that is not below the number can be left out
abbrev pub PartBounded : Type 0
PartBounded = (shop : FlowShop) (front back : List ℕ) (number : ℕ) (part : Part) (parts : List Part)
    → Covers shop front back number (part ∷ parts) → IsPart shop part → number ≤ part.bound
    → Covers shop front back number parts

-- no order is shorter than a number that neither the first number nor the bound of a part is below
abbrev pub PartsBounded : Type 0
PartsBounded = (shop : FlowShop) (front back : List ℕ) (number less : ℕ) (parts : List Part)
    → Covers shop front back number parts → All (IsPart shop) parts → less ≤ number → All (λ part. less ≤ part.bound) parts
    → NoneShorter shop front back less
