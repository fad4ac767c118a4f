-- What `value`, `check` and `table` print.
use Rattle.std.specs.Prelude.{◌≡◌, ◌≢◌, ℕ, ◌+◌, ◌<◌, nat_eq, List, [], ◌∷◌, ◌++◌, length, slice_index, Some}
use Rattle.std.specs.Prelude.{if◌then◌else◌, codes}
use Rattle.std.specs.List.{flat_map}
use Rattle.pfs_base.specs.FlowShop.{FlowShop}
use Rattle.pfs_base.specs.Lists.{below}
use Rattle.pfs_base.specs.Paths.{makespan}
use Rattle.pfs_base.specs.Text.{with_line_end, spaced, named_number}
use Rattle.pfs_order.specs.Sequence.{StatedOrder, all_jobs}
use Rattle.pfs_audit.specs.Schedule.{Timing, start_in, end_in, end_of, last_end, IsLeastSchedule}
use Rattle.pfs_audit.specs.Verdicts.{SizesMatch}
use Rattle.pfs_audit.specs.declared.verdicts.Verdict.{Verdict}
use Rattle.pfs_audit.specs.declared.verdicts.Verdict.TheVariants.{Valid, WrongSize, WrongMachines, WrongMakespan}
use Rattle.pfs_desk.specs.declared.fault.Outcome.{Outcome}
use Rattle.pfs_desk.specs.declared.fault.Outcome.TheVariants.{Done, CheckFailed}

-- the line of `value`: the makespan of the jobs in the order of their numbers
abbrev pub value_text : FlowShop → List ℕ
value_text shop = named_number (codes "makespan") (makespan shop (all_jobs shop.jobs))

-- three lines: a title, and two numbers, each after its name
abbrev pub finding : List ℕ → List ℕ → ℕ → List ℕ → ℕ → List ℕ
finding title name number other_name other_number = with_line_end title ++ named_number name number
    ++ named_number other_name other_number

-- the text for a valid order; its last line is `optimal` exactly if the makespan is equal to the lower bound
unfoldable pub valid_text : ℕ → ℕ → List ℕ
valid_text makespan bound = finding (codes "valid") (codes "makespan") makespan (codes "bound") bound
    ++ (if nat_eq makespan bound then with_line_end (codes "optimal") else [])

-- the text for an order with another number of jobs than the instance
abbrev pub wrong_size_text : ℕ → ℕ → List ℕ
wrong_size_text order jobs = finding (codes "wrong size") (codes "order") order (codes "jobs") jobs

-- the text for an order file that states another number of machines than the instance has
abbrev pub wrong_machines_text : ℕ → ℕ → List ℕ
wrong_machines_text order machines = finding (codes "wrong machines") (codes "order") order (codes "machines") machines

-- the text for a verdict
abbrev pub verdict_text : Verdict → List ℕ
verdict_text (Valid makespan bound) = valid_text makespan bound
verdict_text (WrongSize order jobs) = wrong_size_text order jobs
verdict_text (WrongMachines order machines) = wrong_machines_text order machines
verdict_text (WrongMakespan stated computed) = finding (codes "wrong makespan") (codes "stated") stated
    (codes "computed") computed

-- a check fails exactly if the size, the number of machines or the makespan is wrong
abbrev pub outcome_of : Verdict → Outcome
outcome_of (Valid makespan bound) = Done
outcome_of (WrongSize order jobs) = CheckFailed
outcome_of (WrongMachines order machines) = CheckFailed
outcome_of (WrongMakespan stated computed) = CheckFailed

-- the line of a row: its job, counted from 1, and the job's start and end on each machine in turn
unfoldable pub row_text : Timing → ℕ → List ℕ
row_text timing row = with_line_end (spaced ((slice_index timing.jobs row + 1)
    ∷ flat_map (λ machine. start_in timing row machine ∷ end_in timing row machine ∷ []) (below timing.machines)))

-- the line of the sizes of a time table: the numbers of its rows and machines
unfoldable pub sizes_text : Timing → List ℕ
sizes_text timing = with_line_end (codes "table" ++ 32 ∷ spaced (length timing.jobs ∷ timing.machines ∷ []))

-- the lines of a time table: its sizes, its rows, and as the makespan the time at which it ends
unfoldable pub table_text : Timing → List ℕ
table_text timing = sizes_text timing ++ flat_map (row_text timing) (below (length timing.jobs))
    ++ named_number (codes "makespan") (last_end timing)

-- the time table of an order, in which each operation starts as early as it can
pub record IsLeastTable (shop : FlowShop) (order : List ℕ) (timing : Timing) : Type 0 where
  pub jobs : timing.jobs ≡ order
  pub machines : timing.machines ≡ shop.machines
  pub earliest : IsLeastSchedule shop order (start_in timing)
  pub ends : (row machine : ℕ) → row < length order → machine < shop.machines
      → end_in timing row machine ≡ end_of shop order (start_in timing) row machine
  pub makespan : last_end timing ≡ makespan shop order

-- what `table` prints: the time table of an order that fits, or that the order has a wrong size, or else that the order
-- file states a wrong number of machines
pub record TablePrints (shop : FlowShop) (file : StatedOrder) (outcome : Outcome) (text : List ℕ) : Type 0 where
  pub fits : SizesMatch shop file
      → (outcome ≡ Done) × ((timing : Timing) × IsLeastTable shop file.order timing × (text ≡ table_text timing))
  pub wrong_size : length file.order ≢ shop.jobs
      → (outcome ≡ CheckFailed) × (text ≡ wrong_size_text (length file.order) shop.jobs)
  pub wrong_machines : length file.order ≡ shop.jobs → (stated : ℕ) → file.machines ≡ Some stated
      → stated ≢ shop.machines → (outcome ≡ CheckFailed) × (text ≡ wrong_machines_text stated shop.machines)
