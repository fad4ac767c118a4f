-- The best place of a job, from the lanes of the sums.
use Rattle.std.proofs.Common.{◌≡◌, ℕ, ◌+◌, ◌<◌, ◌≤◌, List, length, map, take, drop, get_or, ap, ◌∙◌, sym}
use Rattle.std.proofs.Common.{arith}
use Rattle.std.proofs.lemmas.List.{get_or-take, get_or-drop, take-map, drop-map}
use Rattle.pfs_base.specs.FlowShop.{FlowShop}
use Rattle.pfs_insert.specs.Insertion.{makespan_with}
use Rattle.pfs_insert.specs.Inserter.{IsBestPlace}
use Rattle.pfs_insert.proofs.Published.BestPlaces.{best_place_found}
use Rattle.pfs_wave.specs.Wavefront.{HoldsCapped, capped}
use Rattle.pfs_wave.specs.Private.Lanes.{HoldsBelow}
use Rattle.pfs_wave.specs.Private.Least.{IsLeastHeld}
use Rattle.pfs_wave.proofs.CappedLeast.{capped_least_law}

-- a number of a part of a list
pub number_of_part : {N : Type 0} (number : N → ℕ) (all : List N) (first count at : ℕ) → at < count
    → get_or (map number (take count (drop first all))) at 0 ≡ get_or (map number all) (first + at) 0
number_of_part number all first count at lt =
    ap (λ l. get_or l at 0) (sym (take-map number count (drop first all)) ∙ ap (take count)
    (sym (drop-map number first all)))
    ∙ get_or-take count (drop first (map number all)) at 0 lt ∙ get_or-drop first (map number all) at 0

-- numbers that hold values below a limit hold them up to it
pub below_limit : (limit : ℕ) (value : ℕ → ℕ) {count place least : ℕ} → ((at : ℕ) → at < count → value at < limit)
    → IsLeastHeld (HoldsBelow limit) value count place least → IsLeastHeld (HoldsCapped limit) value count place least
below_limit limit value small held = record {
  number = held.number;
  numbers_hold = λ at lt. ap (capped limit) (held.numbers_hold at lt (small at lt));
  least_is = held.least_is;
}

-- where the makespan with the job at another place is below the cap, the first place of the least sum is the best place
pub found : (shop : FlowShop) (order : List ℕ) (job cap : ℕ) {count place least : ℕ}
    → IsLeastHeld (HoldsCapped cap) (makespan_with shop order job) count place least → count ≡ length order + 1
    → (other : ℕ) → other ≤ length order → makespan_with shop order job other < cap
    → IsBestPlace shop order job place least
found shop order job cap {count} {place} {least} held many other among short =
    let here = held.least_is.value_is in
    let first = held.least_is.first in
    let inside = first.within in
    let other_is = held.numbers_hold other (omega arith) in
    let no_more = first.least other (omega arith) in
    let least_is = capped_least_law cap (makespan_with shop order job) held.number count place held.numbers_hold first
    (omega (arith, other_is, no_more, short)) in
    best_place_found shop order job (rw many at least_is.0) (here ∙ least_is.1)
