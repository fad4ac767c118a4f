-- What `solve` prints, and when it rejects the destruction size.
use Rattle.std.specs.Prelude.{◌≡◌, ℕ, ◌<◌, ◌≤◌, min, Bool, List, [], ◌++◌, Option, Some, None}
use Rattle.std.specs.Prelude.{if◌then◌else◌, codes}
use Rattle.pfs_base.specs.FlowShop.{FlowShop}
use Rattle.pfs_base.specs.Text.{named_number}
use Rattle.pfs_order.specs.OrderText.{file_text}
use Rattle.pfs_search.specs.Solution.{IsFound}
use Rattle.pfs_desk.specs.declared.fault.DeskFault.{DeskFault}
use Rattle.pfs_desk.specs.declared.fault.DeskFault.TheVariants.{TakeRange}
use Rattle.pfs_words.specs.declared.solve_options.SolveOptions.{SolveOptions}
use Rattle.pfs_words.specs.declared.solve_options.TheConstants.{DEFAULT_TAKE}

-- the destruction size, which is the number of jobs that a round removes: the stated number if there is one, else the
-- default, or all jobs if there are fewer
abbrev pub take_for : Option ℕ → ℕ → ℕ
take_for (Some asked) jobs = asked
take_for None jobs = min DEFAULT_TAKE jobs

-- an order file with the order, the number of machines and the makespan, and after it, with `--cells`, a line with the
-- number of table cells that were computed
unfoldable pub solution_text : List ℕ → ℕ → ℕ → Bool → ℕ → List ℕ
solution_text order machines makespan with_cells cells =
    file_text order (Some machines) makespan ++ (if with_cells then named_number (codes "cells") cells else [])

-- the stated destruction size is above the number of jobs, and the fault has both numbers
abbrev pub IsTakeFault : Option ℕ → ℕ → DeskFault → Type 0
IsTakeFault asked jobs (TakeRange take others) = (asked ≡ Some take) × (jobs < take) × (others ≡ jobs)
IsTakeFault asked jobs others = ⊥

-- what `solve` prints for an instance that has at least as many jobs as the destruction size
pub record IsSolution (shop : FlowShop) (options : SolveOptions) (text : List ℕ) : Type 0 where
  pub take : ℕ
  pub order : List ℕ
  pub span : ℕ
  pub cells : ℕ
  pub taken : take ≡ take_for options.take shop.jobs
  pub few_taken : take ≤ shop.jobs
  pub found : IsFound shop options.rounds take options.passes options.seed order span cells
  pub spelled : text ≡ solution_text order shop.machines span options.cells cells
