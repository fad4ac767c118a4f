-- Many sequences of equal length, one after the other in a list.
use Rattle.std.specs.Prelude.{ℕ, ◌*◌, List, take, drop}

-- the sequence with this index, counted from 0, if each has `long` jobs
abbrev pub sequence_at : ℕ → List ℕ → ℕ → List ℕ
sequence_at long sequences index = take long (drop (index * long) sequences)
