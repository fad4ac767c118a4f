-- Rows of durations, added place by place.
use Rattle.std.specs.Prelude.{ℕ, ◌+◌, List}
use Rattle.std.specs.Simd.Lanes.{zip2}
use Rattle.pfs_base.specs.Paths.{greatest}

-- the greatest sum of two durations at the same place of two rows
abbrev pub greatest_join : {X : Type 0} → (X → ℕ) → List X → List X → ℕ
greatest_join number a b = greatest (zip2 (λ x y. number x + number y) a b)
