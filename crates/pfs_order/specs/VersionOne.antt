-- The order files of version 1, defined on their own.
use Rattle.std.specs.Prelude.{◌≡◌, ℕ, ◌+◌, ◌<◌, ◌^◌, List, ◌++◌, length, map, codes}
use Rattle.pfs_base.specs.Limits.{limits}
use Rattle.pfs_base.specs.Text.{with_line_end, spaced, named_number}
use Rattle.pfs_order.specs.Sequence.{IsSequence, IsSize}

-- the input is the order file of version 1 of a makespan and an order of all jobs, which count from 0 in
-- `order` and from 1 in the input
pub record IsVersionOne (input order : List ℕ) (makespan : ℕ) : Type 0 where
  pub size : IsSize limits (length order)
  pub is_order : IsSequence (length order) order
  pub short_makespan : makespan < 10 ^ 18
  pub spelled : input ≡ named_number (codes "order") (length order)
      ++ with_line_end (spaced (map (λ job. job + 1) order)) ++ named_number (codes "makespan") makespan
