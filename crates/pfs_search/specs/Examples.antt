-- Small shops.
use Rattle.std.specs.Prelude.{[], ◌∷◌}
use Rattle.pfs_base.specs.FlowShop.{FlowShop}

-- one job on one machine, which takes no time
abbrev pub one_job : FlowShop
one_job = record { jobs = 1; machines = 1; times = 0 ∷ [] }

-- two jobs on one machine, with the processing times 5 and 3
abbrev pub one_machine : FlowShop
one_machine = record { jobs = 2; machines = 1; times = 5 ∷ 3 ∷ [] }

-- three jobs on three machines: the processing times of the first job are 3, 1 and 0, those of the second 3, 0 and 1,
-- and those of the third 0, 6 and 0
abbrev pub three_machines : FlowShop
three_machines = record { jobs = 3; machines = 3; times = 3 ∷ 1 ∷ 0 ∷ 3 ∷ 0 ∷ 1 ∷ 0 ∷ 6 ∷ 0 ∷ [] }
