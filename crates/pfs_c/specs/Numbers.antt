-- The numbers that the functions return.
use Rattle.std.specs.Prelude.{◌≡◌, ◌⊎◌, ℤ, pos, Option, Some, None}
use Rattle.pfs_c.specs.declared.numbers.CallFault.{CallFault}
use Rattle.pfs_c.specs.declared.numbers.CallFault.TheVariants as faults

-- the number that C receives for a fault
abbrev pub fault_number : CallFault → ℤ
fault_number faults.Memory = pos 1
fault_number faults.Size = pos 2
fault_number faults.Length = pos 3
fault_number faults.Time = pos 4
fault_number faults.Job = pos 5
fault_number faults.Repeated = pos 6
fault_number faults.Take = pos 7
fault_number faults.Passes = pos 8
fault_number faults.Rounds = pos 9
fault_number faults.Seed = pos 10
fault_number faults.Layout = pos 11
fault_number faults.Block = pos 12
fault_number faults.Makespan = pos 13
fault_number faults.Room = pos 14
fault_number faults.NotPrepared = pos 15
fault_number faults.Held = pos 16
fault_number faults.Ties = pos 17
fault_number faults.NoBlock = pos 20
fault_number faults.SizeCount = pos 21
fault_number faults.SizeRange = pos 22
fault_number faults.MixedLine = pos 23
fault_number faults.TimeRange = pos 24
fault_number faults.MachineNumber = pos 25
fault_number faults.ExtraNumber = pos 26
fault_number faults.Truncated = pos 27
fault_number faults.InputTooLong = pos 28
fault_number faults.Syntax = pos 30
fault_number faults.JobRange = pos 31
fault_number faults.JobTwice = pos 32
fault_number faults.FileTooLong = pos 33

-- a call returns the number of the first fault in its arguments; if there is none, it returns 0, which is PFS_OK, or,
-- if an allocation failed, PFS_MEMORY
abbrev pub Returns : ℤ → Option CallFault → Type 0
Returns result (Some why) = result ≡ fault_number why
Returns result None = (result ≡ pos 0) ⊎ (result ≡ fault_number faults.Memory)

-- the same of a call that allocates nothing
abbrev pub number_returned : Option CallFault → ℤ
number_returned None = pos 0
number_returned (Some why) = fault_number why
