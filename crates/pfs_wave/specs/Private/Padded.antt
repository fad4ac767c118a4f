-- The times of a sequence, with machines of time 0 after the last machine.
use Rattle.std.specs.Prelude.{ℕ, ◌-◌, List, min, length, nat_lt, if◌then◌else◌}
use Rattle.std.specs.List.{slice_index_or}
use Rattle.pfs_base.specs.FlowShop.{FlowShop}
use Rattle.pfs_base.specs.Paths.{operation}
use Rattle.pfs_wave.specs.Private.Lanes.{Rows}

-- the value of a lane of a step
abbrev pub lane_of : Rows → ℕ → ℕ → ℕ
lane_of rows step lane = slice_index_or (rows step) lane 0

-- the value of a lane's machine, and 0 in the lanes after the last machine
abbrev pub on_machine : FlowShop → (ℕ → ℕ) → ℕ → ℕ
on_machine shop values lane = if nat_lt lane shop.machines then values lane else 0

-- the time at a row of the sequence and a lane, and 0 after the last row and after the last machine
abbrev pub padded_time : FlowShop → List ℕ → ℕ → ℕ → ℕ
padded_time shop jobs row lane =
    if nat_lt row (length jobs) then on_machine shop (operation shop jobs row) lane else 0

-- the machine whose value a lane contains: the lane's own, or the last machine in the lanes after that
abbrev pub machine_at : FlowShop → ℕ → ℕ
machine_at shop lane = min lane (shop.machines - 1)
