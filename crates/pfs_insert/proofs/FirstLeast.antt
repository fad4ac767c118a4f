-- The first place of the least value.
use Rattle.std.proofs.Common.{◌≡◌, ℕ, zero, suc, ◌+◌, ◌<◌, ◌≤◌, List, length, get_or, true, false, leb, inl, inr, ◌∙◌}
use Rattle.std.proofs.Common.{sym, add-one, arith}
use Rattle.std.specs.List.{list_all, range_with_len}
use Rattle.std.proofs.lemmas.Bool.{cases_lt, le-leb, lt-leb}
use Rattle.std.proofs.lemmas.List.FromFn.{length-range_with_len, get_or-range_with_len}
use Rattle.std.proofs.lemmas.List.Folds.{list_all_at}
use Rattle.std.proofs.lemmas.List.Sums.{list_all-from_AllPass, position_or_len_is}
use Rattle.pfs_base.specs.FlowShop.{FlowShop}
use Rattle.pfs_insert.specs.Inserter.{IsBestPlace}
use Rattle.pfs_insert.specs.Insertion.{first_least, makespan_with, IsFirstLeast, BestPlaceLaw}
use Rattle.pfs_insert.specs.Private.BestSoFar.{IsBest}

place_at : (count k d : ℕ) → k < count → get_or (range_with_len 0 count) k d ≡ k
place_at count k d small = get_or-range_with_len 0 count k d small ∙ omega arith

module _ (value : ℕ → ℕ) where
  -- the test that `first_least` applies to a place
  test_yes : (count place : ℕ) → ((other : ℕ) → other < count → value place ≤ value other) →
      list_all (λ other. leb (value place) (value other)) (range_with_len 0 count) ≡ true
  test_yes count place least =
      list_all-from_AllPass (λ other. leb (value place) (value other)) (range_with_len 0 count) (λ k d within.
      let small : k < count = omega (arith, length-range_with_len 0 count) in
      rw (place_at count k d small) (le-leb (value place) (value k) (least k small)))

  test_no : (count place other : ℕ) → other < count → value other < value place →
      list_all (λ other. leb (value place) (value other)) (range_with_len 0 count) ≡ false
  test_no count place other small less =
      list_all_at (λ other. leb (value place) (value other)) (range_with_len 0 count) other 0
      (omega (arith, length-range_with_len 0 count))
      (rw (place_at count other 0 small) (lt-leb (value place) (value other) less))

  first_least_is : (count place : ℕ) → IsFirstLeast value count place → first_least value count ≡ place
  first_least_is count place is =
      let within = is.within in
      position_or_len_is _ (range_with_len 0 count) place 0 (omega (arith, length-range_with_len 0 count))
      (λ k before. rw (place_at count k 0 (omega arith)) (test_no count k place within (is.first k before)))
      (λ _. rw (place_at count place 0 within) (test_yes count place is.least))

  -- one more place, whose value is at least the least so far
  first_least_keeps : (count place : ℕ) → IsFirstLeast value count place → value place ≤ value count →
      IsFirstLeast value (count + 1) place
  first_least_keeps count place is le = record {
    within = omega (arith, is.within);
    least = λ other small.
        elim (cases_lt other count) [
          | inl earlier ↦ is.least other earlier
          | inr later ↦ let e : other ≡ count = omega arith in rw e le
        ];
    first = is.first;
  }

  -- one more place, whose value is less than the least so far
  first_least_takes : (count place : ℕ) → IsFirstLeast value count place → value count < value place →
      IsFirstLeast value (count + 1) count
  first_least_takes count place is less = record {
    within = omega arith;
    least = λ other small.
        elim (cases_lt other count) [
          | inl earlier ↦ omega (arith, is.least other earlier)
          | inr later ↦ let e : other ≡ count = omega arith in rw e (omega arith)
        ];
    first = λ other small. omega (arith, is.least other small);
  }

  first_least_one : IsFirstLeast value 1 0
  first_least_one = record {
    within = omega arith;
    least = λ other small. let e : other ≡ 0 = omega arith in rw e (omega arith);
    first = λ other small. absurd (omega arith);
  }

  -- among any number of places, at least one, there is a first place of the least value
  some_least : (count : ℕ) → (place : ℕ) × IsFirstLeast value (count + 1) place
  some_least zero = (0, first_least_one)
  some_least (suc count) =
      let place = (some_least count).0 in
      let so_far : IsFirstLeast value (suc count) place = rw add-one at (some_least count).1 in
      elim (cases_lt (value (suc count)) (value place)) [
        | inl less ↦ (suc count, first_least_takes (suc count) place so_far less)
        | inr least ↦ (place, first_least_keeps (suc count) place so_far least)
      ]

pub best_place_law : BestPlaceLaw
best_place_law shop jobs job =
    let value = makespan_with shop jobs job in
    let found = some_least value (length jobs) in
    rw (first_least_is value (length jobs + 1) found.0 found.1) found.1

-- the best of all places so far, where these are all places, is the best place
pub best_is : {X : Type 0} {number : X → ℕ} (shop : FlowShop) (jobs : List ℕ) (job : ℕ) {place : ℕ} {span : X}
    → IsBest number (makespan_with shop jobs job) (length jobs + 1) place span
    → IsBestPlace shop jobs job place (number span)
best_is shop jobs job {place} best =
    let small = best.first.within in
    record {
      place_is = sym (first_least_is (makespan_with shop jobs job) (length jobs + 1) place best.first);
      within = omega arith;
      span_is = best.value_is;
    }
