-- The greatest sum of two rows whose numbers are known.
use Rattle.std.proofs.Common.{◌≡◌, ℕ, zero, suc, ◌+◌, ◌*◌, ◌<◌, ◌≤◌, List, [], ◌∷◌, length, map, refl, ap, ◌∙◌, arith}
use Rattle.std.proofs.Common.{false, insert}
use Rattle.std.specs.List.{range_with_len}
use Rattle.std.specs.Simd.Lanes.{zip2}
use Rattle.pfs_base.specs.Joins.{greatest_join}
use Rattle.pfs_base.specs.Paths.{greatest}
use Rattle.pfs_base.proofs.Published.Heaviest.{greatest-cons}
use Rattle.pfs_base.specs.declared.limits.TheConstants.{MOST_JOBS, MOST_MACHINES, LONGEST_TIME}
use Rattle.pfs_base.specs.FlowShop.{FlowShop, IsWithin}
use Rattle.pfs_base.specs.Limits.{limits}
use Rattle.pfs_insert.specs.Exchange.{heaviest_front, heaviest_back}
use Rattle.pfs_insert.specs.Private.Rows.{AreValues}
use Rattle.pfs_insert.proofs.TailRows.{put_short, tails_short}

-- the greatest sum, over the machines, of a front and a back at the same machine
abbrev pub greatest_front_and_back : ℕ → (ℕ → ℕ) → (ℕ → ℕ) → ℕ
greatest_front_and_back machines fronts backs =
    greatest (map (λ machine. fronts machine + backs machine) (range_with_len 0 machines))

module _ {X : Type 0} (number : X → ℕ) (fronts backs : ℕ → ℕ) where
  sums_are : (a b : List X) (from : ℕ) → length a ≡ length b
      → AreValues number a (length a) false (λ machine. fronts (from + machine))
      → AreValues number b (length a) false (λ machine. backs (from + machine))
      → zip2 (λ x y. number x + number y) a b
      ≡ map (λ machine. fronts machine + backs machine) (range_with_len from (length a))
  sums_are [] b from same one two = refl
  sums_are (x ∷ a) [] from same one two = absurd (omega arith)
  sums_are (x ∷ a) (y ∷ b) from same one two =
      let here : from + 0 ≡ from = omega arith in
      let first : number x ≡ fronts from = one 0 x (omega arith) ∙ ap fronts here in
      let second : number y ≡ backs from = two 0 y (omega arith) ∙ ap backs here in
      let rest = sums_are a b (from + 1) (omega arith)
      (λ machine d lt. one (suc machine) d (omega arith) ∙ ap fronts (omega arith))
      (λ machine d lt. two (suc machine) d (omega arith) ∙ ap backs (omega arith)) in
      cc

  pub join_is : (machines : ℕ) (a b : List X) → length a ≡ machines → length b ≡ machines
      → AreValues number a machines false fronts → AreValues number b machines false backs
      → greatest_join number a b ≡ greatest_front_and_back machines fronts backs
  join_is machines a b wide wide_too one two =
      rw (← wide) (ap greatest (sums_are a b 0 (omega arith)
      (λ machine d lt. one machine d (omega arith) ∙ ap fronts (omega arith))
      (λ machine d lt. two machine d (omega arith) ∙ ap backs (omega arith))))

-- the greatest of some values is at most a bound on all of them
pub greatest_small : (values : ℕ → ℕ) (limit from count : ℕ)
    → ((place : ℕ) → place < from + count → values place ≤ limit)
    → greatest (map values (range_with_len from count)) ≤ limit
greatest_small values limit from zero small = omega arith
greatest_small values limit from (suc count) small =
    let rest = greatest_small values limit (from + 1) count (λ place lt. small place (omega arith)) in
    omega (arith, greatest-cons (values from) (map values (range_with_len (from + 1) count)), small from (omega arith))

-- such a sum is within the limit of lengths
pub sum_short : (shop : FlowShop) (jobs : List ℕ) (job place : ℕ) → IsWithin limits shop → length jobs ≤ shop.jobs
    → place ≤ length jobs
    → greatest_front_and_back shop.machines (heaviest_front shop (insert jobs place job) place)
    (heaviest_back shop jobs place) ≤ (2 * (MOST_JOBS + MOST_MACHINES) + 1) * LONGEST_TIME
sum_short shop jobs job place within few inside =
    greatest_small (λ machine. heaviest_front shop (insert jobs place job) place machine
    + heaviest_back shop jobs place machine) _ 0 shop.machines (λ machine lt.
    let one = put_short shop within jobs few job place machine inside (omega arith) in
    let two = tails_short shop within jobs few place machine (omega arith) in
    omega arith)
