-- Sums over the jobs of an order.
use Rattle.std.proofs.Common.{◌≡◌, ℕ, zero, suc, ◌<◌, ◌≤◌, List, [], ◌∷◌, length, take}
use Rattle.std.proofs.Common.{get_or, remove, refl, sym, ◌∙◌, add-one, arith}
use Rattle.std.specs.List.{sum_by, range_with_len}
use Rattle.std.proofs.lemmas.List.{get_or_default, take_all}
use Rattle.std.proofs.lemmas.List.Edits.{length-remove}
use Rattle.std.proofs.lemmas.List.Sums.{sum_by_more, sum_by-remove}
use Rattle.pfs_order.specs.Sequence.{IsSequence, all_jobs}
use Rattle.pfs_order.proofs.Published.Sequences.{Contains-all, IsSequence-remove, absent-remove}
use Rattle.pfs_audit.proofs.Published.Ranges.{sum_by-below-suc}

-- an order without the job of the greatest number is an order of the other jobs
rest_is : (size at : ℕ) (order : List ℕ) → at < length order → size ≡ get_or order at size → IsSequence (suc size) order
    → IsSequence size (remove order at)
rest_is size at order within is sequence =
    let wide = IsSequence-remove (suc size) at size order within is sequence in
    let absent = absent-remove (suc size) at size order sequence within (is ∙ get_or_default order at size 0 within) in
    record {
      in_range = λ k d l.
          let small = wide.in_range k d l in
          let other : get_or (remove order at) k d ≡ size → ⊥ =
          λ same. absent (k, l, get_or_default (remove order at) k size d l ∙ same) in
          omega arith;
      distinct = wide.distinct;
    }

-- a sum over an order of all jobs is the sum over all jobs
pub sum_by-order : (f : ℕ → ℕ) (size : ℕ) (order : List ℕ) → IsSequence size order → length order ≡ size
    → sum_by f order ≡ sum_by f (all_jobs size)
sum_by-order f zero [] sequence full = refl
sum_by-order f zero (job ∷ jobs) sequence full = absurd (omega arith)
sum_by-order f (suc size) order sequence full =
    let (at, within, found) = Contains-all (suc size) size order sequence full (omega arith) in
    let shorter = length-remove order at within in
    let left = rest_is size at order within (sym found) sequence in
    let rest = sum_by-order f size (remove order at) left (omega arith) in
    let without = rw found at (sum_by-remove f order at size within) in
    let more = sum_by-below-suc f size in
    omega arith

-- the sum over the first rows
pub sum_by-rows : (f : ℕ → ℕ) (order : List ℕ) (rows : ℕ) → rows ≤ length order
    → sum_by (λ row. f (get_or order row 0)) (range_with_len 0 rows) ≡ sum_by f (take rows order)
sum_by-rows f order zero le = refl
sum_by-rows f order (suc rows) le =
    let before = sum_by-rows f order rows (omega arith) in
    let left = sum_by-below-suc (λ row. f (get_or order row 0)) rows in
    let right = rw add-one at (sum_by_more f order rows 0 (omega arith)) in
    omega arith

pub sum_by-all_rows : (f : ℕ → ℕ) (order : List ℕ)
    → sum_by (λ row. f (get_or order row 0)) (range_with_len 0 (length order)) ≡ sum_by f order
sum_by-all_rows f order =
    rw (take_all (length order) order (omega arith)) at (sum_by-rows f order (length order) (omega arith))
