-- What the functions that read and write files in memory return.
use Rattle.std.specs.Prelude.{◌≡◌, ◌⊎◌, ℕ, ℤ, ◌*◌, ◌^◌, ◌<◌, ◌==◌, ◌&&◌, nat_le, nat_lt, if◌then◌else◌}
use Rattle.std.specs.Prelude.{List, [], ◌∷◌, ◌++◌, length, take, drop, slice_index}
use Rattle.std.specs.Prelude.{Option, Some, None, is_some, Result, Ok, Err, IsSomeAnd, MatchOption}
use Rattle.std.specs.Option.{option_map_or}
use Rattle.pfs_base.specs.FlowShop.{FlowShop}
use Rattle.pfs_base.specs.Limits.{limits}
use Rattle.pfs_base.specs.Lists.{first_some}
use Rattle.pfs_base.specs.Problem.{Problem}
use Rattle.pfs_base.specs.declared.limits.TheConstants.{MOST_BLOCKS, MOST_JOBS, MOST_MACHINES}
use Rattle.pfs_base.specs.declared.notes.Notes.{Notes}
use Rattle.pfs_layout.specs.CanonicalText.{canonical_text}
use Rattle.pfs_layout.specs.File.{IsInstanceFile}
use Rattle.pfs_layout.specs.Reader.{EndsWantedSize}
use Rattle.pfs_layout.specs.Rejection.{RejectsInstance}
use Rattle.pfs_layout.specs.declared.fault.LayoutFault.{LayoutFault}
use Rattle.pfs_layout.specs.declared.fault.LayoutFault.TheVariants as file
use Rattle.pfs_layout.specs.declared.layout.Layout.{Layout}
use Rattle.pfs_layout.specs.declared.layout.Layout.TheVariants.{Taillard, OrLib}
use Rattle.pfs_order.specs.OrderFile.{IsText, IsOrderFile, RejectsOrder}
use Rattle.pfs_order.specs.Sequence.{StatedOrder}
use Rattle.pfs_order.specs.declared.fault.OrderFault.{OrderFault}
use Rattle.pfs_order.specs.declared.fault.OrderFault.TheVariants as order
use Rattle.pfs_c.specs.Validation.{shop_of, unless, jobs_fault}
use Rattle.pfs_c.specs.Numbers.{fault_number, number_returned}
use Rattle.pfs_c.specs.declared.numbers.CallFault.{CallFault}
use Rattle.pfs_c.specs.declared.numbers.CallFault.TheVariants as faults
use Rattle.pfs_c.specs.declared.texts.PfsBlock.{PfsBlock}

-- ---- arguments, as C passes them

-- the layout that a number names
abbrev pub layout_named : ℕ → Option Layout
layout_named number = if number == 0 then Some Taillard else (if number == 1 then Some OrLib else None)

-- the number of machines that an order file states, where 0 means that it states none
abbrev pub machines_stated : ℕ → Option ℕ
machines_stated machines = if machines == 0 then None else Some machines

-- a problem and an order file from their parts, as C receives and passes them
abbrev pub given_problem : PfsBlock → List ℕ → Problem
given_problem block times =
    record { shop = shop_of times block.jobs block.machines; notes = block.notes }

abbrev pub order_file_of : List ℕ → ℕ → ℕ → StatedOrder
order_file_of jobs machines makespan =
    record { order = jobs; machines = machines_stated machines; makespan = makespan }

-- ---- faults of arguments and of files

abbrev pub layout_fault : ℕ → Option CallFault
layout_fault layout = unless (is_some (layout_named layout)) faults.Layout

abbrev pub block_fault : ℕ → Option CallFault
block_fault block = unless (nat_le 1 block && nat_le block MOST_BLOCKS) faults.Block

-- `Room`, unless there is room for `wanted` entries
abbrev pub room_fault : ℕ → ℕ → Option CallFault
room_fault room wanted = unless (nat_le wanted room) faults.Room

-- the fault of a call for that of an instance file; the last two are not found in a file
abbrev pub file_fault : LayoutFault → CallFault
file_fault (file.NoBlock found) = faults.NoBlock
file_fault (file.SizeCount line) = faults.SizeCount
file_fault (file.SizeRange line) = faults.SizeRange
file_fault (file.MixedLine offset) = faults.MixedLine
file_fault (file.TimeRange offset) = faults.TimeRange
file_fault (file.MachineNumber offset) = faults.MachineNumber
file_fault (file.ExtraNumber offset) = faults.ExtraNumber
file_fault (file.Truncated have) = faults.Truncated
file_fault file.TooLong = faults.InputTooLong
file_fault file.SeedRange = faults.Seed
file_fault file.Read = faults.Memory
file_fault file.Memory = faults.Memory

-- the count, line or offset of a fault of an instance file, or 0 if it has none
abbrev pub file_place : LayoutFault → ℕ
file_place (file.NoBlock found) = found
file_place (file.SizeCount line) = line
file_place (file.SizeRange line) = line
file_place (file.MixedLine offset) = offset
file_place (file.TimeRange offset) = offset
file_place (file.MachineNumber offset) = offset
file_place (file.ExtraNumber offset) = offset
file_place (file.Truncated have) = have
file_place _ = 0

-- the fault of a call for that of an order file; the last two are not found in a file
abbrev pub order_fault : OrderFault → CallFault
order_fault (order.Syntax offset) = faults.Syntax
order_fault (order.JobRange place) = faults.JobRange
order_fault (order.Repeated place) = faults.JobTwice
order_fault order.TooLong = faults.FileTooLong
order_fault order.Read = faults.Memory
order_fault order.Memory = faults.Memory

-- the offset or place of a fault of an order file, or 0 if it has none
abbrev pub order_place : OrderFault → ℕ
order_place (order.Syntax offset) = offset
order_place (order.JobRange place) = place
order_place (order.Repeated place) = place
order_place _ = 0

-- ---- files in memory

-- the bytes contain this problem as the block with this number, in the layout that a number names
abbrev pub HoldsProblem : List ℕ → ℕ → ℕ → Problem → Type 0
HoldsProblem bytes layout block problem =
    IsSomeAnd (layout_named layout) (λ named. IsInstanceFile limits named bytes block problem)

-- reading this block in this layout finds this fault
abbrev pub HasFault : List ℕ → ℕ → ℕ → LayoutFault → Type 0
HasFault bytes layout block fault =
    IsSomeAnd (layout_named layout) (λ named. RejectsInstance named bytes block fault)

-- a problem or a fault; by a law, no bytes contain two problems, or a problem and a fault, or two faults
abbrev pub IsVerdict : List ℕ → ℕ → ℕ → Result Problem LayoutFault → Type 0
IsVerdict bytes layout block (Ok problem) = HoldsProblem bytes layout block problem
IsVerdict bytes layout block (Err fault) = HasFault bytes layout block fault

-- the same for an order file
abbrev pub IsOrderVerdict : List ℕ → Result StatedOrder OrderFault → Type 0
IsOrderVerdict bytes (Ok file) = IsOrderFile bytes file
IsOrderVerdict bytes (Err fault) = RejectsOrder bytes fault

-- the fault for a file: its own, or `Room` if its times do not fit
abbrev pub verdict_fault : ℕ → Result Problem LayoutFault → Option CallFault
verdict_fault room (Ok problem) = room_fault room (problem.shop.jobs * problem.shop.machines)
verdict_fault room (Err fault) = Some (file_fault fault)

-- the fault for an order file: its own, or `Room` if its order does not fit
abbrev pub order_verdict_fault : ℕ → Result StatedOrder OrderFault → Option CallFault
order_verdict_fault room (Ok file) = room_fault room (length file.order)
order_verdict_fault room (Err fault) = Some (order_fault fault)

-- ---- the numbers that are returned

-- the layout and the block are validated first, then the file
abbrev pub asked_fault : ℕ → ℕ → Option CallFault
asked_fault layout block = first_some (layout_fault layout ∷ block_fault block ∷ [])

-- the size line of the requested block ends at a place of the bytes, where memory for its times is allocated
pub record NeedsMemory (bytes : List ℕ) (layout : Layout) (block : ℕ) : Type 0 where
  pub place : ℕ
  pub within : place < length bytes
  pub ends : EndsWantedSize layout block (take place bytes) (slice_index bytes place)

-- the allocation at the end of the size line failed, or the number is that of the file's verdict, which is unique
abbrev pub ReturnsFile : ℤ → List ℕ → ℕ → ℕ → ℕ → Type 0
ReturnsFile number bytes layout block room =
    ((number ≡ fault_number faults.Memory) × IsSomeAnd (layout_named layout) (λ named. NeedsMemory bytes named block))
    ⊎ ((verdict : Result Problem LayoutFault) × (IsVerdict bytes layout block verdict
    × (number ≡ number_returned (verdict_fault room verdict))))

abbrev pub ReturnsRead : ℤ → List ℕ → ℕ → ℕ → ℕ → Type 0
ReturnsRead number bytes layout block room = MatchOption (asked_fault layout block)
    (ReturnsFile number bytes layout block room) (λ why. number ≡ fault_number why)

-- the allocation for the order failed, which happens only once the text is known to match the grammar and before its
-- jobs are validated, or the number is that of the file's verdict
abbrev pub ReturnsReadOrder : ℤ → List ℕ → ℕ → Type 0
ReturnsReadOrder number bytes room = ((number ≡ fault_number faults.Memory) × IsText bytes)
    ⊎ ((verdict : Result StatedOrder OrderFault) × (IsOrderVerdict bytes verdict
    × (number ≡ number_returned (order_verdict_fault room verdict))))

-- ---- writing

-- the text of a problem in the layout that a number names
abbrev pub text_in : ℕ → Problem → List ℕ
text_in layout problem = option_map_or (λ named. canonical_text named problem) (layout_named layout) []

-- the text of the flow shop that a handle holds, with these notes
abbrev pub written : Option FlowShop → ℕ → Notes → List ℕ
written None layout notes = []
written (Some shop) layout notes = text_in layout (record { shop = shop; notes = notes })

-- a list whose front was overwritten with another list
abbrev pub put_in_front : {A : Type 0} → List A → List A → List A
put_in_front front whole = front ++ drop (length front) whole

abbrev pub order_size_fault : ℕ → ℕ → Option CallFault
order_size_fault jobs machines =
    unless ((nat_le 1 jobs && nat_le jobs MOST_JOBS) && nat_le machines MOST_MACHINES) faults.Size

abbrev pub stated_fault : ℕ → Option CallFault
stated_fault makespan = unless (nat_lt makespan (10 ^ 18)) faults.Makespan

abbrev pub write_order_fault : List ℕ → ℕ → ℕ → Option CallFault
write_order_fault jobs machines makespan = first_some (order_size_fault (length jobs) machines
    ∷ jobs_fault (length jobs) jobs ∷ stated_fault makespan ∷ [])

-- the first fault in the arguments; if there is none, PFS_MEMORY if an allocation failed, or else PFS_OK if the file
-- fits and PFS_ROOM if not
abbrev pub ReturnsWrite : ℤ → Option CallFault → ℕ → ℕ → Type 0
ReturnsWrite number (Some why) room wanted = number ≡ fault_number why
ReturnsWrite number None room wanted = (number ≡ fault_number faults.Memory) ⊎ (number ≡ number_returned (room_fault room wanted))
