-- The random words of a search.
use Rattle.std.specs.Prelude.{ℕ, ◌+◌, List, drop as rest}
use Rattle.pfs_search.specs.Solution.{words_for}

-- the `count` random words of a seed that follow its first `first` words
abbrev pub words_from : ℕ → ℕ → ℕ → List ℕ
words_from seed first count = rest first (words_for seed (first + count))
