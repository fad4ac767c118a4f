-- The least schedule, and that no feasible schedule ends before the makespan.
use Rattle.std.proofs.Common.{◌≡◌, ℕ, zero, suc, ◌+◌, ◌-◌, ◌<◌, ◌≤◌, max, List, [], ◌∷◌, length, add-one}
use Rattle.std.proofs.Common.{arith}
use Rattle.pfs_base.specs.FlowShop.{FlowShop}
use Rattle.pfs_base.specs.Paths.{makespan, operation}
use Rattle.pfs_base.proofs.Published.Heads.{head, head_before, head_step, head_before_more, heaviest_is, makespan_is}
use Rattle.pfs_audit.specs.Schedule.{Starts, end_of, EndsBy, IsFeasible, IsLeastSchedule, least_end, least_start}
use Rattle.pfs_audit.specs.Schedule.{LeastScheduleLaw, NoneEndsEarlier, OneLeastSchedule}
use Rattle.pfs_audit.proofs.BoundLemmas.{head_down}
use Rattle.pfs_audit.proofs.Published.LeastTimes.{head_along}

module _ (shop : FlowShop) (order : List ℕ) where
  abbrev weigh : ℕ → ℕ → ℕ
  weigh = operation shop order

  pub least_end-is : (row machine : ℕ) → least_end shop order row machine ≡ head weigh (suc row) machine
  least_end-is row machine = heaviest_is weigh row machine

  -- an operation starts at the later of the ends above it and before it
  pub least_start-is : (row machine : ℕ)
      → least_start shop order row machine ≡ max (head weigh row machine) (head_before weigh row machine)
  least_start-is row machine =
      let e = least_end-is row machine in let step = head_step weigh row machine in omega arith

  pub end_of_least : (row machine : ℕ)
      → end_of shop order (least_start shop order) row machine ≡ head weigh (suc row) machine
  end_of_least row machine =
      let e = least_start-is row machine in let step = head_step weigh row machine in omega arith

  -- the last operation ends last
  head_le_makespan : (row machine : ℕ) → row < length order → machine < shop.machines
      → head weigh (suc row) machine ≤ makespan shop order
  head_le_makespan row machine r m =
      let e : machine + (shop.machines - 1 - machine) ≡ shop.machines - 1 = omega arith in
      let f : suc row + (length order - suc row) ≡ length order = omega arith in
      let along = rw e at (head_along weigh row machine (shop.machines - 1 - machine)) in
      let down = rw f at (head_down weigh (suc row) (shop.machines - 1) (length order - suc row)) in
      let is = makespan_is shop order in
      omega arith

  module _ (others : Starts) (feasible : IsFeasible shop order others) where
    not_earlier : (row machine : ℕ) → row < length order → machine < shop.machines
        → least_start shop order row machine ≤ others row machine
    not_earlier zero zero r m = let e = least_start-is 0 0 in omega arith
    not_earlier zero (suc machine) r m =
        let e = least_start-is 0 (suc machine) in
        let is = end_of_least 0 machine in
        let before = not_earlier zero machine r (omega arith) in
        let on = rw add-one at (feasible.one_machine 0 machine r (omega arith)) in
        omega arith
    not_earlier (suc row) zero r m =
        let e = least_start-is (suc row) 0 in
        let is = end_of_least row 0 in
        let above = not_earlier row zero (omega arith) m in
        let down = rw add-one at (feasible.one_job row 0 (omega arith) m) in
        omega arith
    not_earlier (suc row) (suc machine) r m =
        let e = least_start-is (suc row) (suc machine) in
        let above_is = end_of_least row (suc machine) in
        let before_is = end_of_least (suc row) machine in
        let above = not_earlier row (suc machine) (omega arith) m in
        let before = not_earlier (suc row) machine r (omega arith) in
        let down = rw (add-one row) at (feasible.one_job row (suc machine) (omega arith) m) in
        let on = rw (add-one machine) at (feasible.one_machine (suc row) machine r (omega arith)) in
        omega arith

  least_is_feasible : IsFeasible shop order (least_start shop order)
  least_is_feasible = record {
    one_machine = λ row machine r m.
        let e = least_start-is row (machine + 1) in
        let is = end_of_least row machine in
        let before = rw (add-one row) at (head_before_more weigh row machine) in
        omega arith;
    one_job = λ row machine r m.
        let e = rw (add-one row) at (least_start-is (row + 1) machine) in
        let is = end_of_least row machine in
        rw (add-one row) (omega arith);
  }

  pub is_least_schedule : IsLeastSchedule shop order (least_start shop order)
  is_least_schedule = record { feasible = least_is_feasible; least = not_earlier }

  pub ends_by_makespan : EndsBy shop order (least_start shop order) (makespan shop order)
  ends_by_makespan row machine r m =
      let is = end_of_least row machine in let le = head_le_makespan row machine r m in omega arith

pub least_schedule_law : LeastScheduleLaw
least_schedule_law shop order = (is_least_schedule shop order, ends_by_makespan shop order)

pub none_ends_earlier : NoneEndsEarlier
none_ends_earlier shop [] some starts time feasible by = omega arith
none_ends_earlier shop (job ∷ jobs) some starts time feasible by =
    let order = job ∷ jobs in
    let row = length jobs in
    let machine = shop.machines - 1 in
    let low = not_earlier shop order starts feasible row machine (omega arith) (omega arith) in
    let ended = by row machine (omega arith) (omega arith) in
    let is = makespan_is shop order in
    let last = end_of_least shop order row machine in
    omega arith

pub one_least_schedule : OneLeastSchedule
one_least_schedule shop order one other a b row machine r m =
    let below = a.least other b.feasible row machine r m in
    let above = b.least one a.feasible row machine r m in
    omega arith
