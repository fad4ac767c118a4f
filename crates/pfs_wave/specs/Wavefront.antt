-- Numbers that stop at a cap, the greatest number of a lane, and a bound on makespans.
use Rattle.std.specs.Prelude.{ℕ, ◌≡◌, ◌+◌, ◌*◌, ◌<◌, ◌≤◌, List, min, length}
use Rattle.std.specs.List.{All}
use Rattle.pfs_base.specs.FlowShop.{FlowShop}
use Rattle.pfs_insert.specs.Insertion.{makespan_with, IsFirstLeast}

-- the number, or the cap where it is greater
abbrev pub capped : ℕ → ℕ → ℕ
capped cap n = min n cap

-- the number holds a value up to a cap: they are the same, or none of them is below the cap
abbrev pub HoldsCapped : ℕ → ℕ → ℕ → Type 0
HoldsCapped cap number value = capped cap number ≡ capped cap value

-- the first place of the least number, where that is below the cap and each number holds a value up to it, is the first
-- place of the least value, and both are the same
abbrev pub CappedLeastLaw : Type 0
CappedLeastLaw =
    (cap : ℕ) (values others : ℕ → ℕ) (count place : ℕ)
    → ((at : ℕ) → at < count → HoldsCapped cap (others at) (values at))
    → IsFirstLeast others count place → others place < cap
    → IsFirstLeast values count place × (others place ≡ values place)

-- with a job inserted into a sequence of n jobs, on m machines, no makespan is longer than n + m times the longest
-- time: a path of n + 1 jobs has n + m operations
abbrev pub LongestWithLaw : Type 0
LongestWithLaw =
    (shop : FlowShop) (jobs : List ℕ) (job place limit : ℕ) → 1 ≤ shop.machines → place ≤ length jobs
    → All (λ time. time ≤ limit) shop.times
    → makespan_with shop jobs job place ≤ (length jobs + shop.machines) * limit
