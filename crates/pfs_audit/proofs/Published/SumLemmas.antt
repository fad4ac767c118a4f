-- The sums of the first jobs, with one more job and machine by machine.
use Rattle.std.proofs.Common.{◌≡◌, ℕ, zero, suc, ◌+◌, ◌-◌, ◌*◌, ◌<◌, ◌≤◌, min, [], ◌∷◌, map}
use Rattle.std.proofs.Common.{replicate, ap, ◌∙◌, add-one, arith}
use Rattle.std.specs.List.{sum_by, range_with_len, fold}
use Rattle.std.proofs.Math.Nat.{add-zero, add-suc}
use Rattle.std.proofs.lemmas.List.{get_or-replicate, length-replicate}
use Rattle.std.proofs.lemmas.List.Sums.{fold-append}
use Rattle.std.proofs.lemmas.List.FromFn.{map-range_with_len_more}
use Rattle.pfs_base.specs.declared.limits.TheConstants.{LONGEST_TIME, MOST_MACHINES}
use Rattle.pfs_base.specs.Limits.{limits}
use Rattle.pfs_base.specs.Heads.{AreOf}
use Rattle.pfs_base.specs.FlowShop.{FlowShop, IsWithin, time_of}
use Rattle.pfs_base.proofs.Published.Heads.{time_of-le}
use Rattle.pfs_audit.specs.Bound.{least, time_on}
use Rattle.pfs_audit.specs.Private.Sums.{least_among, load_among}
use Rattle.pfs_audit.specs.declared.bounds.TheConstants.{LONGEST_TOTAL}
use Rattle.pfs_audit.proofs.Published.Ranges.{sum_by-range-suc, sum_by-below-suc, sum_by-below-more}

pub least_among-more : (shop : FlowShop) (jobs from many : ℕ)
    → least_among shop (jobs + 1) from many ≡ min (least_among shop jobs from many) (time_on shop from many jobs)
least_among-more shop jobs from many =
    let f = time_on shop from many in
    ap (fold min LONGEST_TOTAL) (map-range_with_len_more f 0 jobs jobs (omega arith))
    ∙ fold-append min LONGEST_TOTAL (map f (range_with_len 0 jobs)) (f jobs ∷ [])

pub load_among-more : (shop : FlowShop) (jobs machine : ℕ)
    → load_among shop (jobs + 1) machine ≡ load_among shop jobs machine + time_of shop jobs machine
load_among-more shop jobs machine = sum_by-below-more (λ job. time_of shop job machine) jobs

pub least_among-le : (shop : FlowShop) (jobs from many : ℕ) → least_among shop jobs from many ≤ LONGEST_TOTAL
least_among-le shop zero from many = omega arith
least_among-le shop (suc jobs) from many =
    let more = rw add-one at (least_among-more shop jobs from many) in
    let before = least_among-le shop jobs from many in
    omega arith

pub load_among-le : (shop : FlowShop) → IsWithin limits shop → (jobs machine : ℕ)
    → load_among shop jobs machine ≤ LONGEST_TIME * jobs
load_among-le shop within zero machine = omega arith
load_among-le shop within (suc jobs) machine =
    let more = sum_by-below-suc (λ job. time_of shop job machine) jobs in
    let before = load_among-le shop within jobs machine in
    let here = time_of-le shop within jobs machine in
    omega arith

pub time_on-le : (shop : FlowShop) → IsWithin limits shop → (from many job : ℕ)
    → time_on shop from many job ≤ LONGEST_TIME * many
time_on-le shop within from zero job = omega arith
time_on-le shop within from (suc many) job =
    let more = sum_by-range-suc (time_of shop job) from many in
    let before = time_on-le shop within from many job in
    let here = time_of-le shop within job (from + many) in
    omega arith

-- for at least one job, the least time is that of the definition
pub least_among-is : (shop : FlowShop) → IsWithin limits shop → (jobs from many : ℕ) → 1 ≤ jobs → many ≤ MOST_MACHINES
    → least_among shop jobs from many ≡ least (map (time_on shop from many) (range_with_len 0 jobs))
least_among-is shop within zero from many some few = absurd (omega arith)
least_among-is shop within (suc jobs) from many some few =
    let small = time_on-le shop within from many 0 in
    let first : min LONGEST_TOTAL (time_on shop from many 0) ≡ time_on shop from many 0 = omega arith in
    ap (λ a. fold min a (map (time_on shop from many) (range_with_len 1 jobs))) first

-- a sum in two parts
sum_by-parts : (f : ℕ → ℕ) (n more : ℕ)
    → sum_by f (range_with_len 0 (n + more)) ≡ sum_by f (range_with_len 0 n) + sum_by f (range_with_len n more)
sum_by-parts f n zero = rw (add-zero n) (omega arith)
sum_by-parts f n (suc more) =
    let before = sum_by-parts f n more in
    let whole = sum_by-below-suc f (n + more) in
    let part = sum_by-range-suc f n more in
    rw (add-suc n more) (omega arith)

-- the times of a job up to a machine, and after it
pub time_on-parts : (shop : FlowShop) (job machine : ℕ) → machine < shop.machines
    → time_on shop 0 shop.machines job
    ≡ time_on shop 0 (machine + 1) job + time_on shop (machine + 1) (shop.machines - (machine + 1)) job
time_on-parts shop job machine within =
    let e : machine + 1 + (shop.machines - (machine + 1)) ≡ shop.machines = omega arith in
    rw e at (sum_by-parts (time_of shop job) (machine + 1) (shop.machines - (machine + 1)))

-- a list that repeats one number
pub all_same : (machines many x : ℕ) → machines ≤ many → AreOf (λ _. x) machines (replicate many x)
all_same machines many x few = record {
  every = omega (arith, length-replicate many x);
  values = λ machine small. get_or-replicate many machine x 0 (omega arith);
}
