use Rattle.std.proofs.Common.{◌≡◌, ℕ, ◌<◌, map, get_or}
use Rattle.pfs_wave.proofs.best.write_spans.Given as goal

abbrev pub invariant-loop-place : goal.invariant-loop-place
invariant-loop-place g l =
    (place : ℕ) → place < l.place → get_or l.spans place 0 ≡ get_or (map g.V.Band.number l.sums) place 0
