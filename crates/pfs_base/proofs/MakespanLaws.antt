-- The laws of the makespan.
use Rattle.std.proofs.Common.{◌≡◌, ℕ, zero, suc, ◌-◌, ◌<◌, ◌≤◌, List, [], ◌∷◌, length, refl, sym, ap, ◌∙◌}
use Rattle.std.proofs.Common.{add-one, arith}
use Rattle.pfs_base.specs.FlowShop.{FlowShop}
use Rattle.pfs_base.specs.Paths.{operation, IsHeaviest, MakespanLaw, OneMakespan, AreEnds, RecurrenceLaw}
use Rattle.pfs_base.proofs.Published.Heaviest.{heaviest_law}
use Rattle.pfs_base.proofs.Published.Heads.{head, head_step, makespan_is}

pub makespan_law : MakespanLaw
makespan_law shop [] = refl
makespan_law shop (job ∷ jobs) =
    heaviest_law (operation shop (job ∷ jobs)) 0 0 (length jobs) (shop.machines - 1) (omega arith) (omega arith)

-- two paths that no path exceeds have the same weight
one_heaviest : (weigh : ℕ → ℕ → ℕ) (row machine r m one other : ℕ) → IsHeaviest weigh row machine r m one
    → IsHeaviest weigh row machine r m other → one ≡ other
one_heaviest weigh row machine r m one other a b =
    let below = b.no_heavier a.some_path.0 a.some_path.1 in
    let above = a.no_heavier b.some_path.0 b.some_path.1 in
    let one_is = a.some_path.2 in
    let other_is = b.some_path.2 in
    omega arith

pub one_makespan : OneMakespan
one_makespan shop [] one other a b = a ∙ sym b
one_makespan shop (job ∷ jobs) one other a b =
    one_heaviest (operation shop (job ∷ jobs)) 0 0 (length jobs) (shop.machines - 1) one other a b

module _ (shop : FlowShop) (jobs : List ℕ) (ends : ℕ → ℕ → ℕ) (are : AreEnds shop jobs ends) where
  -- each end is the weight of the heaviest path to its operation
  ends_are_heads : (row machine : ℕ) → row ≤ length jobs → machine < shop.machines
      → ends row (suc machine) ≡ head (operation shop jobs) row machine
  ends_are_heads zero machine r m = are.no_row (suc machine)
  ends_are_heads (suc row) zero r m =
      let above = ends_are_heads row zero (omega arith) m in
      let none = are.no_machine (suc row) in
      let step = rw (add-one row) at (are.step row 0 (omega arith) m) in
      let is = head_step (operation shop jobs) row 0 in
      omega arith
  ends_are_heads (suc row) (suc machine) r m =
      let above = ends_are_heads row (suc machine) (omega arith) m in
      let before = ends_are_heads (suc row) machine r (omega arith) in
      let step = rw (add-one row, add-one (suc machine)) at (are.step row (suc machine) (omega arith) m) in
      let is = head_step (operation shop jobs) row (suc machine) in
      omega arith

pub recurrence_law : RecurrenceLaw
recurrence_law shop jobs ends some are =
    let last : shop.machines ≡ suc (shop.machines - 1) = omega arith in
    ap (ends (length jobs)) last
    ∙ ends_are_heads shop jobs ends are (length jobs) (shop.machines - 1) (omega arith) (omega arith)
    ∙ sym (makespan_is shop jobs)
