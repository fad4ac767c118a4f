-- The faults that functions find in their arguments. Each function makes its checks in a fixed order, and reports the
-- first fault that they find.
use Rattle.std.specs.Prelude.{ℕ, ◌+◌, ◌*◌, ◌<◌, ◌≤◌, ◌&&◌, Bool, not, List, [], ◌∷◌, length, map, take, slice_index}
use Rattle.std.specs.Prelude.{nat_eq, nat_lt, nat_le, Option, Some, None, if◌then◌else◌}
use Rattle.std.specs.List.{list_all, list_any}
use Rattle.pfs_base.specs.FlowShop.{FlowShop}
use Rattle.pfs_base.specs.Lists.{below, first_some}
use Rattle.pfs_base.specs.declared.limits.TheConstants.{MOST_JOBS, MOST_MACHINES, LONGEST_TIME}
use Rattle.pfs_layout.specs.Generator.{prime}
use Rattle.pfs_order.specs.Sequence.{IsSequence}
use Rattle.pfs_c.specs.declared.numbers.CallFault.{CallFault}
use Rattle.pfs_c.specs.declared.numbers.CallFault.TheVariants.{Size, Length, Time, Job, Repeated, Seed, NotPrepared}

-- the flow shop that C passes, with its processing times job by job
abbrev pub shop_of : List ℕ → ℕ → ℕ → FlowShop
shop_of times jobs machines = record { jobs = jobs; machines = machines; times = times }

-- this fault, unless the test is true
abbrev pub unless : Bool → CallFault → Option CallFault
unless test why = if test then None else Some why

-- ---- sizes and lists

abbrev pub sizes_fault : ℕ → ℕ → Option CallFault
sizes_fault jobs machines =
    unless ((nat_le 1 jobs && nat_le jobs MOST_JOBS) && (nat_le 1 machines && nat_le machines MOST_MACHINES)) Size

abbrev pub length_fault : ℕ → ℕ → Option CallFault
length_fault long wanted = unless (nat_eq long wanted) Length

abbrev pub times_fault : List ℕ → Option CallFault
times_fault times = unless (list_all (λ time. nat_le time LONGEST_TIME) times) Time

abbrev pub shop_faults : List ℕ → ℕ → ℕ → List (Option CallFault)
shop_faults times jobs machines =
    sizes_fault jobs machines ∷ length_fault (length times) (jobs * machines) ∷ times_fault times ∷ []

abbrev pub shop_fault : List ℕ → ℕ → ℕ → Option CallFault
shop_fault times jobs machines = first_some (shop_faults times jobs machines)

-- ---- jobs

-- `Job` if a job is not below the size, else `Repeated` if it is one of the others
abbrev pub job_fault : ℕ → List ℕ → ℕ → Option CallFault
job_fault size others job =
    first_some (unless (nat_lt job size) Job ∷ unless (not (list_any (nat_eq job) others)) Repeated ∷ [])

-- the same for the job at a place and the jobs before it
abbrev pub place_fault : ℕ → List ℕ → ℕ → Option CallFault
place_fault size jobs place = job_fault size (take place jobs) (slice_index jobs place)

-- the first fault in a list of jobs, from the left
abbrev pub jobs_fault : ℕ → List ℕ → Option CallFault
jobs_fault size jobs = first_some (map (place_fault size jobs) (below (length jobs)))

-- the place of the first job with which the jobs from the left are no sequence, or the length if there is none
pub record IsFaultyPlace (size : ℕ) (jobs : List ℕ) (place : ℕ) : Type 0 where
  pub inside : place ≤ length jobs
  pub before : IsSequence size (take place jobs)
  pub faulty : place < length jobs → IsSequence size (take (place + 1) jobs) → ⊥

-- ---- the arguments of calls, in the order of their checks

-- those of a call on the flow shop that a handle holds, or `NotPrepared` if it holds none
abbrev pub on_shop : Option FlowShop → (FlowShop → Option CallFault) → Option CallFault
on_shop None faults = Some NotPrepared
on_shop (Some shop) faults = faults shop

-- a sequence and a job to insert
abbrev pub insertion_fault : FlowShop → List ℕ → ℕ → Option CallFault
insertion_fault shop sequence job =
    first_some (jobs_fault shop.jobs sequence ∷ job_fault shop.jobs sequence job ∷ [])

abbrev pub seed_fault : ℕ → Option CallFault
seed_fault seed = unless (nat_lt 0 seed && nat_lt seed prime) Seed

abbrev pub generate_fault : ℕ → ℕ → ℕ → ℕ → Option CallFault
generate_fault jobs machines seed times =
    first_some (sizes_fault jobs machines ∷ seed_fault seed ∷ length_fault times (jobs * machines) ∷ [])
