-- When the next job starts on a machine, and how long the rest takes, in all orders that begin and end with some jobs.
use Rattle.std.specs.Prelude.{ℕ, suc, ◌+◌, ◌-◌, ◌<◌, ◌≤◌, List, ◌∷◌, ◌++◌, length, slice_index}
use Rattle.pfs_base.specs.FlowShop.{FlowShop, time_of}
use Rattle.pfs_base.specs.Heads.{head_of}
use Rattle.pfs_base.specs.Paths.{makespan}
use Rattle.pfs_exact.specs.Parts.{IsFull}

-- the job after the first ones starts on the machine no sooner than at this time
abbrev pub IsStart : FlowShop → List ℕ → List ℕ → ℕ → ℕ → Type 0
IsStart shop front back machine time = (job : ℕ) (more : List ℕ) → IsFull shop front (job ∷ more) back
    → time + time_of shop job machine ≤ head_of shop (front ++ (job ∷ (more ++ back))) (suc (length front)) machine

-- from the time when the machine is done with the jobs between, there is at least this time to the end
abbrev pub IsRest : FlowShop → List ℕ → List ℕ → ℕ → ℕ → Type 0
IsRest shop front back machine time = (middle : List ℕ) → IsFull shop front middle back
    → head_of shop (front ++ (middle ++ back)) (length front + length middle) machine + time
    ≤ makespan shop (front ++ (middle ++ back))

-- the first numbers of a list, one for each machine
abbrev pub Each : (ℕ → ℕ → Type 0) → ℕ → List ℕ → Type 0
Each Is machines times = (machine : ℕ) → machine < machines → Is machine (slice_index times machine)

abbrev pub AreStarts : FlowShop → List ℕ → List ℕ → List ℕ → Type 0
AreStarts shop front back starts = Each (IsStart shop front back) shop.machines starts

-- from the last machine on
abbrev pub AreRests : FlowShop → List ℕ → List ℕ → List ℕ → Type 0
AreRests shop front back rests = Each (λ turn. IsRest shop front back (shop.machines - 1 - turn)) shop.machines rests
