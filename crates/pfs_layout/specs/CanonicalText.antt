-- The text that is written of an instance, one in each layout.
use Rattle.std.specs.Prelude.{ℕ, List, ◌++◌, flat_map, take}
use Rattle.pfs_base.specs.FlowShop.{FlowShop}
use Rattle.pfs_base.specs.Lists.{below}
use Rattle.pfs_base.specs.Problem.{Problem}
use Rattle.pfs_base.specs.Text.{with_line_end, spaced}
use Rattle.pfs_layout.specs.Block.{Layout, Size, preamble_of, numbers_of, size_of, size_from, due_row, row_count}

-- a row of the body, on one line
abbrev pub row_line : Layout → FlowShop → ℕ → List ℕ
row_line layout shop row = with_line_end (spaced (due_row layout shop row))

abbrev pub row_lines : Layout → FlowShop → List ℕ
row_lines layout shop = flat_map (row_line layout shop) (below (row_count layout shop))

-- the numbers of the size line
abbrev pub size_numbers : Layout → Size → List ℕ
size_numbers layout size = take (preamble_of layout).size_numbers (numbers_of size)

-- the lines before the body
abbrev pub head_lines : Layout → Size → List ℕ
head_lines layout size =
    (preamble_of layout).before ++ with_line_end (spaced (size_numbers layout size)) ++ (preamble_of layout).after

-- the lines before the body, and a line for each of its rows
unfoldable pub canonical_text : Layout → Problem → List ℕ
canonical_text layout problem = head_lines layout (size_of problem) ++ row_lines layout problem.shop

-- the problem that is read back from the text: the OR-Library's layout has no notes, so they are 0
abbrev pub as_written : Layout → Problem → Problem
as_written layout problem =
    record { shop = problem.shop; notes = (size_from (size_numbers layout (size_of problem))).notes }
