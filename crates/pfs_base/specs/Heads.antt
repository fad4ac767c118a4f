-- Heads: when each machine is done with the first jobs of a sequence, where each operation begins as soon as it can.
use Rattle.std.specs.Prelude.{◌≡◌, ℕ, zero, suc, ◌<◌, ◌≤◌, List, length, slice_index}
use Rattle.pfs_base.specs.FlowShop.{FlowShop}
use Rattle.pfs_base.specs.Paths.{heaviest, operation}

-- when the first `rows` jobs are done on a machine: the weight of the heaviest path to the operation of the last of them,
-- and 0 for no jobs
abbrev pub head_of : FlowShop → List ℕ → ℕ → ℕ → ℕ
head_of shop jobs zero machine = 0
head_of shop jobs (suc row) machine = heaviest (operation shop jobs) 0 0 row machine

-- the numbers begin with these values, one for each machine
pub record AreOf (value : ℕ → ℕ) (machines : ℕ) (numbers : List ℕ) : Type 0 where
  pub every : machines ≤ length numbers
  pub values : (machine : ℕ) → machine < machines → slice_index numbers machine ≡ value machine

-- the numbers begin with the heads of the first `rows` jobs
abbrev pub AreHeads : FlowShop → List ℕ → ℕ → List ℕ → Type 0
AreHeads shop jobs rows heads = AreOf (head_of shop jobs rows) shop.machines heads
