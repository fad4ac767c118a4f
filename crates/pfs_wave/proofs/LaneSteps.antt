-- Lanes of vectors that are combined, and the values that they hold.
use Rattle.std.proofs.Common.{ℕ, ◌≡◌, ◌+◌, List, max, length, arith}
use Rattle.std.specs.Simd.Lanes.{zip2}
use Rattle.pfs_wave.specs.Private.Lanes.{Holding, HoldsBelow, IsEach, capped_add}
use Rattle.pfs_wave.specs.Wavefront.{HoldsCapped}
use Rattle.pfs_wave.proofs.Steps.{zip_lane}

-- the lanes of a vector that is made from each two lanes
pub each_lane : (Holds : Holding) (f operation : ℕ → ℕ → ℕ)
    → ((n m a b : ℕ) → Holds n a → Holds m b → Holds (f n m) (operation a b)) → (one other : List ℕ) {result : List ℕ}
    → result ≡ zip2 f one other → length one ≡ 8 → length other ≡ 8 → IsEach Holds operation one other result
each_lane Holds f operation law one other is p q lane a b lt held too =
    rw (is, zip_lane 8 f one other lane (omega arith) q lt) (law _ _ a b held too)

-- numbers that hold values up to a cap
pub capped_greater : (cap n m a b : ℕ) → HoldsCapped cap n a → HoldsCapped cap m b → HoldsCapped cap (max n m) (max a b)
capped_greater cap n m a b held too = omega arith

pub capped_sum : (cap n m a b : ℕ) → HoldsCapped cap n a → HoldsCapped cap m b
    → HoldsCapped cap (capped_add cap n m) (a + b)
capped_sum cap n m a b held too = omega arith

-- numbers that hold values below a limit
pub below_greater : (limit n m a b : ℕ) → HoldsBelow limit n a → HoldsBelow limit m b
    → HoldsBelow limit (max n m) (max a b)
below_greater limit n m a b held too small = omega (arith, held (omega arith), too (omega arith))
