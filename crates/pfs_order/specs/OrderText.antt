-- The one text of an order file in each version.
use Rattle.std.specs.Prelude.{ℕ, ◌+◌, List, [], ◌∷◌, ◌++◌, length, map, codes, Option, Some, None}
use Rattle.pfs_base.specs.Text.{with_line_end, spaced, named_number}

-- the first line: version 1 states the number of jobs, and version 2 also the number of machines
abbrev pub first_line : ℕ → Option ℕ → List ℕ
first_line count None = with_line_end (codes "order" ++ 32 ∷ spaced (count ∷ []))
first_line count (Some machines) = with_line_end (codes "order2" ++ 32 ∷ spaced (count ∷ machines ∷ []))

-- the text of these job numerals, which count from 1, these machines or none, and this makespan
unfoldable pub order_text : List ℕ → Option ℕ → ℕ → List ℕ
order_text jobs machines makespan =
    first_line (length jobs) machines ++ with_line_end (spaced jobs) ++ named_number (codes "makespan") makespan

-- the text of an order, whose jobs count from 0, a number of machines or none, and a makespan
abbrev pub file_text : List ℕ → Option ℕ → ℕ → List ℕ
file_text order machines makespan = order_text (map (λ job. job + 1) order) machines makespan
