-- The greatest number of cells that a search counts within the limits.
use Rattle.std.specs.Prelude.{ℕ, ◌+◌, ◌-◌, ◌*◌, ◌≤◌}
use Rattle.pfs_base.specs.Limits.{limits}
use Rattle.pfs_base.specs.FlowShop.{FlowShop, IsWithin}
use Rattle.pfs_base.specs.declared.limits.TheConstants.{MOST_PASSES, MOST_ROUNDS}
use Rattle.pfs_search.specs.Solution.{neh_cells, rounds_cells}

-- the cells of NEH: 2mn² at the greatest n and m
abbrev pub most_neh_cells : ℕ
most_neh_cells = 2 * limits.machines * (limits.jobs * limits.jobs)

-- the bound on the cells of rounds: R(d + Ln)m(4n - 2) at the greatest R, L, n and m, and d = n
abbrev pub most_rounds_cells : ℕ
most_rounds_cells = MOST_ROUNDS * (limits.jobs + MOST_PASSES * limits.jobs) * limits.machines * (4 * limits.jobs - 2)

-- NEH on a shop within the limits counts at most `most_neh_cells`
abbrev pub FewNehCells : Type 0
FewNehCells = (shop : FlowShop) → IsWithin limits shop → neh_cells shop ≤ most_neh_cells

-- rounds and passes within the limits, on a shop within the limits, count at most `most_rounds_cells`
abbrev pub FewRoundsCells : Type 0
FewRoundsCells = (shop : FlowShop) (rounds take passes : ℕ) → IsWithin limits shop → take ≤ shop.jobs
    → rounds ≤ MOST_ROUNDS → passes ≤ MOST_PASSES → rounds_cells shop rounds take passes ≤ most_rounds_cells
