-- A table whose entries are those of the least schedule.
use Rattle.std.proofs.Common.{◌≡◌, ℕ, ◌+◌, ◌-◌, ◌*◌, ◌<◌, ◌≤◌, List, length, get_or, suc, sym, ap, ◌∙◌, arith}
use Rattle.pfs_base.specs.FlowShop.{FlowShop}
use Rattle.pfs_base.specs.Paths.{makespan, operation}
use Rattle.pfs_base.proofs.Published.Heads.{head, makespan_is}
use Rattle.pfs_audit.specs.Schedule.{Starts, end_of, EndsBy, IsLeastSchedule, least_end, least_start}
use Rattle.pfs_audit.specs.Private.Rows.{AreRows}
use Rattle.pfs_audit.proofs.Schedules.{end_of_least, ends_by_makespan, is_least_schedule, least_end-is}

module _ (shop : FlowShop) (order : List ℕ) (starts : Starts) (same :
    (row machine : ℕ) → row < length order → machine < shop.machines
    → starts row machine ≡ least_start shop order row machine) where
  pub table_ends : (row machine : ℕ) → row < length order → machine < shop.machines
      → least_end shop order row machine ≡ end_of shop order starts row machine
  table_ends row machine r m =
      rw (same row machine r m) (least_end-is shop order row machine ∙ sym (end_of_least shop order row machine))

  pub table_is_least : IsLeastSchedule shop order starts
  table_is_least =
      let least = is_least_schedule shop order in
      record {
        feasible = record {
          one_machine = λ row machine r m.
              let step = least.feasible.one_machine row machine r m in
              let here = same row machine r (omega arith) in
              let there = same row (machine + 1) r m in
              omega arith;
          one_job = λ row machine r m.
              let step = least.feasible.one_job row machine r m in
              let here = same row machine (omega arith) m in
              let there = same (row + 1) machine r m in
              omega arith;
        };
        least = λ others feasible row machine r m.
            let low = least.least others feasible row machine r m in
            let here = same row machine r m in
            omega arith;
      }

  pub table_ends_by : EndsBy shop order starts (makespan shop order)
  table_ends_by row machine r m =
      let by = ends_by_makespan shop order row machine r m in let here = same row machine r m in omega arith

-- the last entry is the makespan
pub last_is_makespan : (shop : FlowShop) (order : List ℕ) → 1 ≤ length order
    → least_end shop order (length order - 1) (shop.machines - 1) ≡ makespan shop order
last_is_makespan shop order some =
    let e : suc (length order - 1) ≡ length order = omega arith in
    least_end-is shop order (length order - 1) (shop.machines - 1)
    ∙ ap (λ rows. head (operation shop order) rows (shop.machines - 1)) e ∙ sym (makespan_is shop order)

-- an entry in the first rows of a table
pub entry_at : (value : ℕ → ℕ → ℕ) (machines rows width many : ℕ) (items : List ℕ)
    → AreRows value machines rows items → width ≡ machines → many ≤ rows
    → (row machine : ℕ) → row < many → machine < machines → get_or items (row * width + machine) 0 ≡ value row machine
entry_at value machines rows width many items are same le row machine r m =
    rw same (are.entries row machine (omega arith) m)
