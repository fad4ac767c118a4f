-- What the bounds of eight children are computed from.
use Rattle.std.specs.Prelude.{ℕ, ◌+◌, ◌≤◌, List}
use Rattle.pfs_base.specs.FlowShop.{FlowShop}
use Rattle.pfs_exact.specs.Private.Blocks.{EachLane}
use Rattle.pfs_exact.specs.Private.Nodes.{IsLeast, IsLeft, IsRest, IsStart}
use Rattle.pfs_exact.specs.declared.lanes.Lanes.{Lanes}

-- a number of at most the sum of two others
pub record IsSum (One Other : ℕ → Type 0) (number : ℕ) : Type 0 where
  pub one : ℕ
  pub other : ℕ
  pub is_one : One one
  pub is_other : Other other
  pub most : number ≤ one + other

-- what the bounds of the children with one more of the first jobs are computed from
pub record AreAhead (shop : FlowShop) (front back : List ℕ) (starts least sums : List Lanes) : Type 0 where
  pub start : EachLane (IsStart shop front back) shop.machines starts
  pub short : EachLane (IsLeast shop front back) shop.machines least
  pub sum : EachLane (λ machine. IsSum (IsLeft shop front back machine) (IsRest shop front back machine))
      shop.machines sums

-- with one more of the last jobs
pub record AreBehind (shop : FlowShop) (front back : List ℕ) (rests least sums : List Lanes) : Type 0 where
  pub rest : EachLane (IsRest shop front back) shop.machines rests
  pub short : EachLane (IsLeast shop front back) shop.machines least
  pub sum : EachLane (λ machine. IsSum (IsLeft shop front back machine) (IsStart shop front back machine))
      shop.machines sums
