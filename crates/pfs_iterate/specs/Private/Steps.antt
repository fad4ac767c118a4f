-- What the steps of a round find and keep.
use Rattle.std.specs.Prelude.{◌≡◌, ℕ, suc, ◌-◌, ◌*◌, ◌<◌, ◌≤◌, ◌++◌, Bool, List, [], ◌∷◌, filter, length, map, nat_le, take}
use Rattle.std.specs.Prelude.{if◌then◌else◌}
use Rattle.rand_core.specs.Pcg32Seed.{pcg32_seed}
use Rattle.rand_pcg.specs.Lcg.{Lcg, advance}
use Rattle.rand_pcg.specs.Pcg.{multiplier_64, pcg32_of_seed}
use Rattle.pfs_base.specs.FlowShop.{FlowShop}
use Rattle.pfs_base.specs.Paths.{makespan}
use Rattle.pfs_insert.specs.Insertion.{makespan_with}
use Rattle.pfs_order.specs.Sequence.{IsSequence, Sequence}
use Rattle.pfs_iterate.specs.Iterated.{chosen}
use Rattle.pfs_iterate.specs.declared.options.Options.{Options}

-- the generator of a seed after a number of rounds of `each` words
abbrev pub generator : ℕ → ℕ → ℕ → Lcg
generator seed rounds each = advance 64 multiplier_64 (rounds * each) (pcg32_of_seed (pcg32_seed 16 seed))

-- for each job that stays, how many of the jobs before it may move
abbrev pub ranks_of : (ℕ → Bool) → List ℕ → List ℕ
ranks_of free [] = []
ranks_of free (job ∷ jobs) = if free job then map suc (ranks_of free jobs) else 0 ∷ ranks_of free jobs

-- how many jobs that stay come before the one that has this number among those that may move
abbrev pub before : ℕ → List ℕ → ℕ
before number ranks = length (filter (λ rank. nat_le rank number) ranks)

-- the ranks after that one is removed
abbrev pub lowered : ℕ → ℕ → ℕ
lowered number rank = if nat_le rank number then rank else rank - 1

abbrev pub ranks_without : ℕ → List ℕ → List ℕ
ranks_without number ranks = map (lowered number) ranks

-- the number of a job among all, where this is its number among all but one
abbrev pub renumbered : ℕ → ℕ → ℕ
renumbered one job = if nat_le one job then suc job else job

-- a place from `held` on and below `count`, whose value is at most that of each of these places, and less than that of
-- each of these before it and of each after `last`
pub record IsLeastFrom (value : ℕ → ℕ) (held count place last : ℕ) : Type 0 where
  pub from : held ≤ place
  pub within : place ≤ last
  pub last_within : last < count
  pub least : (other : ℕ) → held ≤ other → other < count → value place ≤ value other
  pub first : (other : ℕ) → held ≤ other → other < place → value place < value other
  pub later : (other : ℕ) → last < other → other < count → value place < value other

-- a place from `held` on and below `count`, whose value is at most that of each of these places; of those with this
-- value, it has the least `tie`, which those before it don't have
pub record IsBestFrom (value tie : ℕ → ℕ) (held count place : ℕ) : Type 0 where
  pub from : held ≤ place
  pub within : place < count
  pub least : (other : ℕ) → held ≤ other → other < count → value place ≤ value other
  pub tied : (other : ℕ) → held ≤ other → other < count → value other ≡ value place → tie place ≤ tie other
  pub first : (other : ℕ) → held ≤ other → other < place → value other ≡ value place → tie place < tie other

-- the chosen place for a job in a sequence, and the makespan with the job there
pub record IsPlaceFor (shop : FlowShop) (options : Options) (jobs : List ℕ) (job place span : ℕ) : Type 0 where
  pub place_is : place ≡ chosen shop options jobs job
  pub from : options.held ≤ place
  pub within : place ≤ length jobs
  pub spanned : span ≡ makespan_with shop jobs job place

-- an order of all jobs, and its makespan
pub record IsMeasured (shop : FlowShop) (order : List ℕ) (span : ℕ) : Type 0 where
  pub all : length order ≡ shop.jobs
  pub spanned : span ≡ makespan shop order

-- a sequence has the same jobs as before, whatever other jobs are distinct from them, and the first `held` ones first
pub record IsRearranged (held : ℕ) (old new : Sequence) : Type 0 where
  pub size : new.size ≡ old.size
  pub count : length new.jobs ≡ length old.jobs
  pub front : take held new.jobs ≡ take held old.jobs
  pub same : (rest : List ℕ) → IsSequence old.size (rest ++ old.jobs) → IsSequence old.size (rest ++ new.jobs)
