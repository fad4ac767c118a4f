-- Small flow shops for worked examples.
use Rattle.std.specs.Prelude.{[], ◌∷◌}
use Rattle.pfs_base.specs.FlowShop.{FlowShop}

-- three jobs on two machines, job by job: 3 and 2, 2 and 5, 4 and 1
abbrev pub three_jobs : FlowShop
three_jobs = record { jobs = 3; machines = 2; times = 3 ∷ 2 ∷ 2 ∷ 5 ∷ 4 ∷ 1 ∷ [] }

-- three jobs on two machines, each of time 1
abbrev pub unit_times : FlowShop
unit_times = record { jobs = 3; machines = 2; times = 1 ∷ 1 ∷ 1 ∷ 1 ∷ 1 ∷ 1 ∷ [] }
