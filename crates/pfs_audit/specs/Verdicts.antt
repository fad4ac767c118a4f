-- The verdict on an order and on what its file states.
use Rattle.std.specs.Prelude.{◌≡◌, ℕ, length, nat_eq, Option, Some, None, IfSome, if◌then◌else◌}
use Rattle.pfs_base.specs.FlowShop.{FlowShop}
use Rattle.pfs_base.specs.Paths.{makespan}
use Rattle.pfs_order.specs.Sequence.{StatedOrder}
use Rattle.pfs_audit.specs.Bound.{bound_of}
use Rattle.pfs_audit.specs.declared.verdicts.Verdict.{Verdict}
use Rattle.pfs_audit.specs.declared.verdicts.Verdict.TheVariants.{Valid, WrongSize, WrongMachines, WrongMakespan}

-- the order has the instance's number of jobs, and no other number of machines is stated for it
pub record SizesMatch (shop : FlowShop) (file : StatedOrder) : Type 0 where
  pub jobs : length file.order ≡ shop.jobs
  pub machines : IfSome file.machines (λ stated. stated ≡ shop.machines)

-- the verdict on an order whose sizes match
abbrev pub verdict_on_order : FlowShop → StatedOrder → Verdict
verdict_on_order shop file =
    if nat_eq file.makespan (makespan shop file.order)
    then Valid file.makespan (bound_of shop)
    else WrongMakespan file.makespan (makespan shop file.order)

-- the verdict on an order of the right size, for which this number of machines is stated, or none
abbrev pub verdict_on_machines : FlowShop → StatedOrder → Option ℕ → Verdict
verdict_on_machines shop file None = verdict_on_order shop file
verdict_on_machines shop file (Some stated) =
    if nat_eq stated shop.machines then verdict_on_order shop file else WrongMachines stated shop.machines

-- the verdict on an order file: the size is checked first, then the number of machines if one is stated, then
-- the makespan
abbrev pub verdict_on : FlowShop → StatedOrder → Verdict
verdict_on shop file =
    if nat_eq (length file.order) shop.jobs
    then verdict_on_machines shop file file.machines
    else WrongSize (length file.order) shop.jobs
