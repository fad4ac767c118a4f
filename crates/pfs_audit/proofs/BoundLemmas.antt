-- No order has a makespan below the bound.
use Rattle.std.proofs.Common.{◌≡◌, ℕ, zero, suc, ◌+◌, ◌-◌, ◌<◌, ◌≤◌, List, map, length, get_or, inl, inr, ap, ◌∙◌}
use Rattle.std.proofs.Common.{add-one, arith}
use Rattle.std.specs.List.{sum_by, range_with_len}
use Rattle.std.proofs.Math.Nat.{add-zero, add-suc}
use Rattle.std.proofs.lemmas.Bool.{cases_lt}
use Rattle.std.proofs.lemmas.List.{get_or_default}
use Rattle.pfs_base.specs.FlowShop.{FlowShop, time_of, total_of}
use Rattle.pfs_base.specs.Paths.{greatest, makespan, operation}
use Rattle.pfs_base.proofs.Published.Heads.{head, head_step, makespan_is}
use Rattle.pfs_order.specs.Sequence.{IsSequence}
use Rattle.pfs_order.proofs.Published.Sequences.{Contains-all}
use Rattle.pfs_audit.specs.Bound.{time_on, machine_bound, BoundLaw}
use Rattle.pfs_audit.proofs.Published.LeastTimes.{head_along, least-range-le}
use Rattle.pfs_audit.proofs.Published.Orders.{sum_by-order, sum_by-all_rows}
use Rattle.pfs_audit.proofs.Published.Ranges.{sum_by-range-suc, sum_by-below-suc, greatest-range-more}
use Rattle.pfs_audit.proofs.Published.Ranges.{total_of-is}

greatest-range-le : (f : ℕ → ℕ) (n limit : ℕ) → ((x : ℕ) → x < n → f x ≤ limit)
    → greatest (map f (range_with_len 0 n)) ≤ limit
greatest-range-le f zero limit small = omega arith
greatest-range-le f (suc n) limit small =
    let more = rw add-one at (greatest-range-more f n) in
    let before = greatest-range-le f n limit (λ x l. small x (omega arith)) in
    let here = small n (omega arith) in
    omega arith

module _ (weigh : ℕ → ℕ → ℕ) where
  -- the times along a row are at most the head at their end
  row_le_head : (row machine : ℕ) → sum_by (weigh row) (range_with_len 0 (suc machine)) ≤ head weigh (suc row) machine
  row_le_head row zero = let step = head_step weigh row 0 in let one = sum_by-below-suc (weigh row) 0 in omega arith
  row_le_head row (suc machine) =
      let before = row_le_head row machine in
      let step = head_step weigh row (suc machine) in
      let more = sum_by-below-suc (weigh row) (suc machine) in
      omega arith

  -- the head at a row and the times further down its machine
  pub head_down : (row machine many : ℕ) →
      head weigh row machine + sum_by (λ r. weigh r machine) (range_with_len row many) ≤ head weigh (row + many) machine
  head_down row machine zero = rw (add-zero row) (omega arith)
  head_down row machine (suc many) =
      let before = head_down row machine many in
      let step = head_step weigh (row + many) machine in
      let more = sum_by-range-suc (λ r. weigh r machine) row many in
      rw (add-suc row many) (omega arith)

  -- the same from the first row on, whose operation is counted on both sides
  head_below : (machine rows : ℕ) →
      head weigh 1 machine + sum_by (λ r. weigh r machine) (range_with_len 0 (suc rows))
      ≤ head weigh (suc rows) machine + weigh 0 machine
  head_below machine zero = let one = sum_by-below-suc (λ r. weigh r machine) 0 in omega arith
  head_below machine (suc rows) =
      let before = head_below machine rows in
      let step = head_step weigh (suc rows) machine in
      let more = sum_by-below-suc (λ r. weigh r machine) (suc rows) in
      omega arith

  -- a path along a row and then down the last machine
  row_le_last : (row machines rows : ℕ) → row < rows
      → sum_by (weigh row) (range_with_len 0 machines) ≤ head weigh rows (machines - 1)
  row_le_last row zero rows small = omega arith
  row_le_last row (suc machine) rows small =
      let all : suc row + (rows - suc row) ≡ rows = omega arith in
      let last : suc machine - 1 ≡ machine = omega arith in
      let along = row_le_head row machine in
      let down = rw all at (head_down (suc row) machine (rows - suc row)) in
      rw last (omega arith)

  -- a path along the first row to a machine, down all rows on it, and along the last row from it
  machine_le_last : (machine machines row : ℕ) → machine < machines →
      sum_by (weigh 0) (range_with_len 0 machine) + sum_by (λ r. weigh r machine) (range_with_len 0 (suc row))
      + sum_by (weigh row) (range_with_len (machine + 1) (machines - (machine + 1)))
      ≤ head weigh (suc row) (machines - 1)
  machine_le_last machine machines row small =
      let last : machine + (machines - (machine + 1)) ≡ machines - 1 = omega arith in
      let first = row_le_head 0 machine in
      let more = sum_by-below-suc (weigh 0) machine in
      let down = head_below machine row in
      let along = rw last at (head_along weigh row machine (machines - (machine + 1))) in
      omega arith

module _ (shop : FlowShop) (order : List ℕ) (sequence : IsSequence shop.jobs order)
    (full : length order ≡ shop.jobs) where
  total_le : (job : ℕ) → job < shop.jobs → total_of shop job ≤ makespan shop order
  total_le job small =
      let (row, within, found) = Contains-all shop.jobs job order sequence full small in
      let at : get_or order row 0 ≡ job = get_or_default order row 0 job within ∙ found in
      let along = row_le_last (operation shop order) row shop.machines (length order) within in
      let same = ap (λ j. time_on shop 0 shop.machines j) at in
      let total = total_of-is shop job in
      let is = makespan_is shop order in
      omega arith

  machine_le : (machine : ℕ) → machine < shop.machines → machine_bound shop machine ≤ makespan shop order
  machine_le machine small = elim (cases_lt 0 (length order)) [
    | inr none ↦ let jobs : shop.jobs ≡ 0 = omega arith in rw jobs (omega arith)
    | inl some ↦
        let row : ℕ = length order - 1 in
        let rows : length order ≡ suc row = omega arith in
        let first = sequence.in_range 0 0 (omega arith) in
        let last = sequence.in_range row 0 (omega arith) in
        let left = shop.machines - (machine + 1) in
        let path = machine_le_last (operation shop order) machine shop.machines row small in
        let before = least-range-le (time_on shop 0 machine) shop.jobs (get_or order 0 0) first in
        let after = least-range-le (time_on shop (machine + 1) left) shop.jobs (get_or order row 0) last in
        let load = sum_by-order (λ job. time_of shop job machine) shop.jobs order sequence full in
        let all_rows = rw rows at (sum_by-all_rows (λ job. time_of shop job machine) order) in
        let is = rw rows at (makespan_is shop order) in
        omega arith
  ]

pub bound_law : BoundLaw
bound_law shop order sequence full =
    let totals = greatest-range-le (total_of shop) shop.jobs _ (total_le shop order sequence full) in
    let machines = greatest-range-le (machine_bound shop) shop.machines _ (machine_le shop order sequence full) in
    omega arith
