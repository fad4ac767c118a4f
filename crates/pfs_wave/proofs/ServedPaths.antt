-- Paths of a shop, none of which is as long as the greatest value of a lane.
use Rattle.std.proofs.Common.{◌≡◌, ℕ, zero, suc, ◌+◌, ◌-◌, ◌*◌, ◌<◌, ◌≤◌, List, [], ◌∷◌, length, insert, ap, subst, arith, refl}
use Rattle.std.proofs.Math.Nat.{mul-le-mul_right, add-mul}
use Rattle.std.proofs.lemmas.List.Edits.{length-insert}
use Rattle.std.specs.List.{All, slice_index_or}
use Rattle.pfs_base.specs.FlowShop.{FlowShop, IsWithin}
use Rattle.pfs_base.specs.Limits.{limits}
use Rattle.pfs_base.specs.Paths.{greatest}
use Rattle.pfs_base.proofs.Published.Heads.{none_longer}
use Rattle.pfs_base.proofs.Published.Heaviest.{greatest-cons}
use Rattle.pfs_insert.specs.Inserter.{IsBestPlace}
use Rattle.pfs_insert.specs.Insertion.{makespan_with}
use Rattle.pfs_wave.specs.Private.Lanes.{HoldsBelow}
use Rattle.pfs_wave.specs.Private.Blocks.{FitsLanes, longest_path}
use Rattle.pfs_wave.specs.Private.Mixed.{IsMixed}
use Rattle.pfs_wave.specs.Private.Payment.{IsFound}
use Rattle.pfs_wave.specs.Tables.{HasLanes}
use Rattle.pfs_wave.specs.Wavefront.{HoldsCapped, capped}
use Rattle.pfs_wave.specs.declared.tables.Wave.{Wave}
use Rattle.pfs_wave.specs.declared.tables.Wave.TheVariants as wave
use Rattle.pfs_wave.proofs.BestFound.{below_limit, found}
use Rattle.pfs_wave.proofs.Longest.{longest_with_law}

-- each number of a list is at most the greatest
pub greatest_all : (numbers : List ℕ) → All (λ number. number ≤ greatest numbers) numbers
greatest_all [] k d lt = absurd (omega arith)
greatest_all (x ∷ xs) zero d lt = omega (arith, greatest-cons x xs)
greatest_all (x ∷ xs) (suc k) d lt = omega (arith, greatest-cons x xs, greatest_all xs k d (omega arith))

module _ (shop : FlowShop) (cap : ℕ) (some : 1 ≤ shop.machines) (short : longest_path shop < cap) where
  pub served_path : (jobs : List ℕ) (job place : ℕ) → length jobs < shop.jobs → place ≤ length jobs
      → makespan_with shop jobs job place < cap
  served_path jobs job place few within =
      let least : length jobs + shop.machines ≤ shop.jobs + shop.machines - 1 = omega arith in
      omega (
        arith,
        longest_with_law shop jobs job place (greatest shop.times) some within (greatest_all shop.times),
        mul-le-mul_right (greatest shop.times) least,
        short,
      )

  -- numbers that hold makespans up to the cap are the makespans, and the first place of the least one is the best place
  pub served_capped : (jobs : List ℕ) (job : ℕ) {place least count : ℕ} {sums : List ℕ} → length jobs < shop.jobs
      → count ≤ length jobs + 1 → IsFound (HoldsCapped cap) shop jobs job place least count sums
      → IsBestPlace shop jobs job place least
      × ((at : ℕ) → at < count → slice_index_or sums at 0 ≡ makespan_with shop jobs job at)
  served_capped jobs job few room is = (
    found shop jobs job cap is.best refl 0 (omega arith) (served_path jobs job 0 few (omega arith)),
    λ at lt. omega (arith, served_path jobs job at few (omega arith), is.sums_hold at lt),
  )

  -- the same of numbers that hold makespans below it
  pub served_below : (jobs : List ℕ) (job : ℕ) {place least count : ℕ} {sums : List ℕ} → length jobs < shop.jobs
      → count ≤ length jobs + 1 → IsFound (HoldsBelow cap) shop jobs job place least count sums
      → IsBestPlace shop jobs job place least
      × ((at : ℕ) → at < count → slice_index_or sums at 0 ≡ makespan_with shop jobs job at)
  served_below jobs job few room is =
      let small = λ (at : ℕ) (lt : at < length jobs + 1). served_path jobs job at few (omega arith) in
      served_capped jobs job few room (record {
        best = below_limit cap (makespan_with shop jobs job) small is.best;
        sums_hold = λ at lt. ap (capped cap) (is.sums_hold at lt (small at (omega arith)));
      })

  -- every time is at most the cap
  pub served_times : 1 ≤ shop.jobs → All (λ time. time ≤ cap) shop.times
  served_times any k d lt =
      let one : 1 ≤ shop.jobs + shop.machines - 1 = omega arith in
      omega (arith, greatest_all shop.times k d lt, mul-le-mul_right (greatest shop.times) one, short)

-- the makespan with a job at its best place fits in a duration
pub best_span : (shop : FlowShop) (jobs : List ℕ) (job place span : ℕ) → IsWithin limits shop
    → length jobs < shop.jobs → IsBestPlace shop jobs job place span → span ≤ 1000000000000000
best_span shop jobs job place span within few best =
    omega (
      arith,
      none_longer shop (insert jobs place job) within (omega (arith, length-insert jobs place job best.within)),
      best.span_is,
    )

-- the cells of one insertion are those of the tails and those of all else
pub cells_split : (len machines : ℕ) → len * machines + (3 * len + 2) * machines ≡ (4 * (len + 1) - 2) * machines
cells_split len machines =
    let all : 4 * (len + 1) - 2 ≡ len + (3 * len + 2) = omega arith in
    rw (all, add-mul len (3 * len + 2) machines) refl

-- the lanes of a shop, by cases
abbrev pub Serves : FlowShop → Wave → Type 0
Serves shop (wave.Short blocks) = FitsLanes shop 65535 blocks
Serves shop (wave.Mixed mixed) = (65535 ≤ longest_path shop) × (greatest shop.times ≤ 65535) × IsMixed shop mixed
Serves shop (wave.Long blocks) = (65535 < greatest shop.times) × FitsLanes shop 4294967295 blocks
Serves shop (wave.Wide blocks) = (4294967295 ≤ longest_path shop) × FitsLanes shop 9223372036854775807 blocks

pub has_lanes : (shop : FlowShop) (made : Wave) → Serves shop made → HasLanes shop (record { wave = made })
has_lanes shop made serves = record {
  short = λ blocks is. subst (Serves shop) is serves;
  mixed = λ mixed is. subst (Serves shop) is serves;
  long = λ blocks is. subst (Serves shop) is serves;
  wide = λ blocks is. subst (Serves shop) is serves;
}
