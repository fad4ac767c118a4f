use Rattle.std.proofs.Common.{◌≡◌, ◌<◌, ◌⊎◌, false, take}
use Rattle.std.specs.Prelude.{nat_eq}
use Rattle.std.specs.List.{list_any, slice_index_or}
use Rattle.pfs_iterate.proofs.improve.place_from.Given as goal

abbrev pub invariant-loop-index : goal.invariant-loop-index
invariant-loop-index l =
    ((l.first < l.index) × (slice_index_or l.behind l.first 0 ≡ l.job))
    ⊎ ((l.first ≡ 4294967295) × (list_any (nat_eq l.job) (take l.index l.behind) ≡ false))
