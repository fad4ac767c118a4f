-- How many nodes a search can have.
use Rattle.std.specs.Prelude.{ℕ, zero, suc, ◌+◌, ◌*◌}

-- the sequences of some of so many jobs: the empty one, and for each job those that begin with it
abbrev pub most_nodes : ℕ → ℕ
most_nodes zero = 1
most_nodes (suc jobs) = 1 + suc jobs * most_nodes jobs
