-- What a node has of each machine, in lanes, and the numbers of its children from those of lanes.
use Rattle.std.proofs.Common.{◌≡◌, ℕ, Bool, true, false, ◌+◌, ◌-◌, ◌<◌, ◌≤◌, List, length, get_or, refl, sym, subst, arith}
use Rattle.pfs_base.specs.FlowShop.{FlowShop}
use Rattle.pfs_exact.specs.declared.children.TheConstants.{CLOSED}
use Rattle.pfs_exact.specs.declared.ends.Ends.{Ends}
use Rattle.pfs_exact.specs.declared.lanes.Lanes.{Lanes}
use Rattle.pfs_exact.specs.declared.node.Node.{Node}
use Rattle.pfs_exact.specs.Private.Ahead.{AreAhead, AreBehind}
use Rattle.pfs_exact.specs.Private.Blocks.{cell, AreShut, EachLane, IsAtMost}
use Rattle.pfs_exact.specs.Private.Nodes.{AreBounds, AreLeast, AreOpen, IsChild, IsLeast, IsNode, IsRest}
use Rattle.pfs_exact.proofs.MachineBounds.{start-le, rest-le}

module _ (shop : FlowShop) (front back : List ℕ) (node : Node) (least : List ℕ) (machines : ℕ)
    (few : machines ≡ shop.machines) (is : IsNode shop front back node) (shorts : AreLeast shop front back least)
    (vectors : List Lanes) (at_least : IsAtMost machines (λ m. get_or least m 0) vectors) where
  each_least : EachLane (IsLeast shop front back) shop.machines vectors
  each_least machine lane small lane_small =
      let at = at_least machine lane (omega arith) lane_small in
      let it = shorts machine small in
      record {
        one = λ job full. let zero_it = it.one job full in omega arith;
        every = λ job inside outside. let less = it.every job inside outside in omega arith;
      }

  pub ahead_from : (starts sums : List Lanes) → IsAtMost machines (λ m. get_or node.starts m 0) starts
      → IsAtMost machines (λ m. get_or node.left m 0 + get_or node.rests (machines - 1 - m) 0) sums
      → AreAhead shop front back starts vectors sums
  ahead_from starts sums at_start at_sum = record {
    start = λ machine lane small lane_small. start-le shop front back machine (get_or node.starts machine 0)
        (cell starts machine lane) (at_start machine lane (omega arith) lane_small) (is.starts machine small);
    short = each_least;
    sum = λ machine lane small lane_small.
        let turn : ℕ = machines - 1 - machine in
        let there : shop.machines - 1 - turn ≡ machine = omega arith in
        record {
          one = get_or node.left machine 0;
          other = get_or node.rests turn 0;
          is_one = is.left machine small;
          is_other = subst (λ m. IsRest shop front back m (get_or node.rests turn 0)) there
              (is.rests turn (omega arith));
          most = at_sum machine lane (omega arith) lane_small;
        };
  }

  pub behind_from : (rests sums : List Lanes) → IsAtMost machines (λ m. get_or node.rests (machines - 1 - m) 0) rests
      → IsAtMost machines (λ m. get_or node.left m 0 + get_or node.starts m 0) sums
      → AreBehind shop front back rests vectors sums
  behind_from rests sums at_rest at_sum = record {
    rest = λ machine lane small lane_small.
        let turn : ℕ = machines - 1 - machine in
        let there : shop.machines - 1 - turn ≡ machine = omega arith in
        rest-le shop front back machine (get_or node.rests turn 0) (cell rests machine lane)
        (at_rest machine lane (omega arith) lane_small)
        (subst (λ m. IsRest shop front back m (get_or node.rests turn 0)) there (is.rests turn (omega arith)));
    short = each_least;
    sum = λ machine lane small lane_small. record {
      one = get_or node.left machine 0;
      other = get_or node.starts machine 0;
      is_one = is.left machine small;
      is_other = is.starts machine small;
      most = at_sum machine lane (omega arith) lane_small;
    };
  }

-- the numbers of the children that are not shut
pub bounds_from : (shop : FlowShop) (ends : Ends) (forward : Bool) (jobs : ℕ) (marks : List Bool)
    (shut numbers bounds : List ℕ) → jobs ≡ shop.jobs → shop.jobs ≤ length bounds → AreOpen shop.jobs ends marks
    → AreShut jobs marks shut
    → ((job : ℕ) → job < jobs → get_or bounds job 0 < CLOSED → get_or shut job 0 ≡ 0)
    → ((job : ℕ) → job < jobs → get_or shut job 0 ≡ 0 → get_or bounds job 0 ≡ get_or numbers job 0)
    → ((job : ℕ) → job < shop.jobs → IsChild shop ends forward job (get_or numbers job 0))
    → AreBounds shop ends forward shop.jobs bounds
bounds_from shop ends forward jobs marks shut numbers bounds all every opens shuts below same low = record {
  every = every;
  low = λ job small outside.
      let unshut = shuts.unmarked job (omega arith) (opens.marked job small outside) in
      subst (IsChild shop ends forward job) (sym (same job (omega arith) unshut)) (low job small);
  closed = λ job small less. opens.only job small (shuts.only job (omega arith) (below job (omega arith) less));
}

-- the numbers of one end or of the other
pub child_from : (shop : FlowShop) (ends : Ends) (forward : Bool) (one other numbers : List ℕ)
    → (forward ≡ true → numbers ≡ one) → (forward ≡ false → numbers ≡ other)
    → ((job : ℕ) → job < shop.jobs → IsChild shop ends true job (get_or one job 0))
    → ((job : ℕ) → job < shop.jobs → IsChild shop ends false job (get_or other job 0))
    → (job : ℕ) → job < shop.jobs → IsChild shop ends forward job (get_or numbers job 0)
child_from shop ends true one other numbers first second ahead behind job small =
    subst (λ (l : List ℕ). IsChild shop ends true job (get_or l job 0)) (sym (first refl)) (ahead job small)
child_from shop ends false one other numbers first second ahead behind job small =
    subst (λ (l : List ℕ). IsChild shop ends false job (get_or l job 0)) (sym (second refl)) (behind job small)
