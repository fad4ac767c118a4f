-- Sums, greatest and least numbers over consecutive numbers, with one more number at a time.
use Rattle.std.proofs.Common.{◌≡◌, ℕ, zero, suc, ◌+◌, ◌*◌, ◌≤◌, max, min, List, [], ◌∷◌, map, length, take}
use Rattle.std.proofs.Common.{drop, get_or, refl, ap, ◌∙◌, add-one, inl, inr, arith}
use Rattle.std.specs.List.{sum, sum_by, range_with_len}
use Rattle.std.proofs.Math.Nat.{zero-add}
use Rattle.std.proofs.lemmas.Bool.{cases_lt}
use Rattle.std.proofs.lemmas.List.{get_or-drop, get_or_past, take_all}
use Rattle.std.proofs.lemmas.List.Sums.{fold-append, sum_by_push, sum_by_more}
use Rattle.std.proofs.lemmas.List.FromFn.{map-range_with_len_more}
use Rattle.pfs_base.specs.FlowShop.{FlowShop, total_of}
use Rattle.pfs_base.specs.Paths.{greatest}
use Rattle.pfs_base.proofs.Published.Lists.{range_with_len-push}
use Rattle.pfs_audit.specs.Bound.{least, time_on}

pub sum_by-range-suc : (f : ℕ → ℕ) (a n : ℕ)
    → sum_by f (range_with_len a (suc n)) ≡ sum_by f (range_with_len a n) + f (a + n)
sum_by-range-suc f a n = ap (sum_by f) (range_with_len-push a n) ∙ sum_by_push f (range_with_len a n) (a + n)

pub sum_by-below-suc : (f : ℕ → ℕ) (n : ℕ)
    → sum_by f (range_with_len 0 (suc n)) ≡ sum_by f (range_with_len 0 n) + f n
sum_by-below-suc f n = rw (zero-add n) at (sum_by-range-suc f 0 n)

pub sum_by-below-more : (f : ℕ → ℕ) (n : ℕ)
    → sum_by f (range_with_len 0 (n + 1)) ≡ sum_by f (range_with_len 0 n) + f n
sum_by-below-more f n = rw add-one (sum_by-below-suc f n)

pub greatest-range-more : (f : ℕ → ℕ) (n : ℕ)
    → greatest (map f (range_with_len 0 (n + 1))) ≡ max (greatest (map f (range_with_len 0 n))) (f n)
greatest-range-more f n =
    ap greatest (map-range_with_len_more f 0 n n (omega arith))
    ∙ fold-append max 0 (map f (range_with_len 0 n)) (f n ∷ [])

pub least-range-more : (f : ℕ → ℕ) (n : ℕ) → 1 ≤ n
    → least (map f (range_with_len 0 (n + 1))) ≡ min (least (map f (range_with_len 0 n))) (f n)
least-range-more f zero some = absurd (omega arith)
least-range-more f (suc n) some =
    ap least (map-range_with_len_more f 0 (suc n) (suc n) (omega arith))
    ∙ fold-append min (f 0) (map f (range_with_len 1 n)) (f (suc n) ∷ [])

-- the sum of a part of a list, place by place
sum-take-drop : (xs : List ℕ) (at n : ℕ)
    → sum (take n (drop at xs)) ≡ sum_by (λ i. get_or xs (at + i) 0) (range_with_len 0 n)
sum-take-drop xs at zero = refl
sum-take-drop xs at (suc n) =
    let rest = sum-take-drop xs at n in
    let more = sum_by-below-suc (λ i. get_or xs (at + i) 0) n in
    let next = get_or-drop at xs n 0 in
    elim (cases_lt n (length (drop at xs))) [
      | inl inside ↦ let longer = rw add-one at (sum_by_more (λ x. x) (drop at xs) n 0 inside) in omega arith
      | inr past ↦
          let none = get_or_past (drop at xs) n 0 past in
          let all = ap sum (take_all n (drop at xs) past) in
          let whole = ap sum (take_all (suc n) (drop at xs) (omega arith)) in
          omega arith
    ]

-- the total of a job is its time on all machines
pub total_of-is : (shop : FlowShop) (job : ℕ) → total_of shop job ≡ time_on shop 0 shop.machines job
total_of-is shop job = sum-take-drop shop.times (job * shop.machines) shop.machines
