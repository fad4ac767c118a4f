-- Taillard's generator of instances (1993): its seeds are products modulo a prime.
use Rattle.std.specs.Prelude.{ℕ, zero, suc, ◌+◌, ◌*◌, ◌/◌, ◌%◌, ◌<◌, [], ◌∷◌}
use Rattle.pfs_base.specs.Problem.{Problem}
use Rattle.pfs_layout.specs.Block.{problem_of, size_from}

abbrev pub prime : ℕ
prime = 2147483647

-- a seed is from 1 to 2147483646
abbrev pub IsSeed : ℕ → Type 0
IsSeed seed = (0 < seed) × (seed < prime)

-- the seed after this many draws
unfoldable pub seed_after : ℕ → ℕ → ℕ
seed_after zero seed = seed
seed_after (suc draws) seed = 16807 * seed_after draws seed % prime

-- the time that a seed gives, from 1 to 99
abbrev pub drawn_time : ℕ → ℕ
drawn_time seed = 1 + seed * 99 / prime

-- the times are drawn machine by machine, and within a machine job by job; the first seed itself gives no time
unfoldable pub generated : ℕ → ℕ → ℕ → Problem
unfolding seed_after
generated jobs machines seed = problem_of (size_from (jobs ∷ machines ∷ seed ∷ []))
    (λ job machine. drawn_time (seed_after (machine * jobs + job + 1) seed))
