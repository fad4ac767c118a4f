-- The line that reports a fault, and the program's exit status for it.
use Rattle.std.specs.Prelude.{ℕ, List, ◌++◌, decimal, codes}
use Rattle.pfs_base.specs.Text.{with_line_end, named_number, number_between}
use Rattle.pfs_layout.specs.declared.fault.LayoutFault.{LayoutFault}
use Rattle.pfs_layout.specs.declared.fault.LayoutFault.TheVariants as layout
use Rattle.pfs_order.specs.declared.fault.OrderFault.{OrderFault}
use Rattle.pfs_order.specs.declared.fault.OrderFault.TheVariants as order
use Rattle.pfs_desk.specs.declared.fault.DeskFault.{DeskFault}
use Rattle.pfs_desk.specs.declared.fault.DeskFault.TheVariants.{Layout, Order, TakeRange, Write, Memory}

-- the line for a fault of an instance file or a seed; offsets count bytes from 0, and lines count from 1
abbrev pub layout_fault_text : LayoutFault → List ℕ
layout_fault_text (layout.NoBlock found) = named_number (codes "pfs: no block, found") found
layout_fault_text (layout.SizeCount line) = number_between (codes "pfs: size line ") line (codes " has a wrong count")
layout_fault_text (layout.SizeRange line) = number_between (codes "pfs: size line ") line (codes " is out of range")
layout_fault_text (layout.MixedLine offset) = named_number (codes "pfs: mixed line at") offset
layout_fault_text (layout.TimeRange offset) = named_number (codes "pfs: time out of range at") offset
layout_fault_text (layout.MachineNumber offset) = named_number (codes "pfs: wrong machine number at") offset
layout_fault_text (layout.ExtraNumber offset) = named_number (codes "pfs: extra number at") offset
layout_fault_text (layout.Truncated have) = number_between (codes "pfs: truncated after ") have (codes " times")
layout_fault_text layout.TooLong = with_line_end (codes "pfs: input too long")
layout_fault_text layout.SeedRange = with_line_end (codes "pfs: seed out of range")
layout_fault_text layout.Read = with_line_end (codes "pfs: read failed")
layout_fault_text layout.Memory = with_line_end (codes "pfs: no memory")

-- the line for a destruction size that is above the number of jobs, with both numbers
abbrev pub take_fault_text : ℕ → ℕ → List ℕ
take_fault_text take jobs = (codes "pfs: take " ++ decimal take)
    ++ number_between (codes " exceeds ") jobs (codes " jobs")

-- the line for a fault of an order file; offsets count bytes from 0, and places of the order count from 1
abbrev pub order_fault_text : OrderFault → List ℕ
order_fault_text (order.Syntax offset) = named_number (codes "pfs: order file syntax at") offset
order_fault_text (order.JobRange place) = named_number (codes "pfs: order file job out of range at place") place
order_fault_text (order.Repeated place) = named_number (codes "pfs: order file job repeated at place") place
order_fault_text order.TooLong = with_line_end (codes "pfs: order file too long")
order_fault_text order.Read = with_line_end (codes "pfs: order file read failed")
order_fault_text order.Memory = with_line_end (codes "pfs: no memory")

-- the line for a fault
abbrev pub fault_text : DeskFault → List ℕ
fault_text (Layout fault) = layout_fault_text fault
fault_text (Order fault) = order_fault_text fault
fault_text (TakeRange take jobs) = take_fault_text take jobs
fault_text (Write fault) = number_between (codes "pfs: write failed after ") fault.written (codes " bytes")
fault_text Memory = with_line_end (codes "pfs: no memory")

-- 2 if the instance file or the seed is rejected, and 4 if a read or a memory allocation failed
abbrev pub layout_status_of : LayoutFault → ℕ
layout_status_of (layout.NoBlock found) = 2
layout_status_of (layout.SizeCount line) = 2
layout_status_of (layout.SizeRange line) = 2
layout_status_of (layout.MixedLine offset) = 2
layout_status_of (layout.TimeRange offset) = 2
layout_status_of (layout.MachineNumber offset) = 2
layout_status_of (layout.ExtraNumber offset) = 2
layout_status_of (layout.Truncated have) = 2
layout_status_of layout.TooLong = 2
layout_status_of layout.SeedRange = 2
layout_status_of layout.Read = 4
layout_status_of layout.Memory = 4

-- 2 if the order file is rejected, and 4 if a read or a memory allocation failed
abbrev pub order_status_of : OrderFault → ℕ
order_status_of (order.Syntax offset) = 2
order_status_of (order.JobRange place) = 2
order_status_of (order.Repeated place) = 2
order_status_of order.TooLong = 2
order_status_of order.Read = 4
order_status_of order.Memory = 4

-- 2 if a file or a seed is rejected, 3 if the destruction size is above the number of jobs, and 4 if a read, a write or
-- a memory allocation failed
abbrev pub status_of : DeskFault → ℕ
status_of (Layout fault) = layout_status_of fault
status_of (Order fault) = order_status_of fault
status_of (TakeRange take jobs) = 3
status_of (Write fault) = 4
status_of Memory = 4
