-- The least times of a job before and after a machine, and heads along a row.
use Rattle.std.proofs.Common.{◌≡◌, ℕ, zero, suc, ◌+◌, ◌<◌, ◌≤◌, map, inl, inr, add-one, arith}
use Rattle.std.specs.List.{sum_by, range_with_len}
use Rattle.std.proofs.Math.Nat.{add-zero, add-suc}
use Rattle.std.proofs.lemmas.Bool.{cases_lt}
use Rattle.pfs_base.proofs.Published.Heads.{head, head_step}
use Rattle.pfs_audit.specs.Bound.{least}
use Rattle.pfs_audit.proofs.Published.Ranges.{least-range-more, sum_by-range-suc}

pub least-range-le : (f : ℕ → ℕ) (n x : ℕ) → x < n → least (map f (range_with_len 0 n)) ≤ f x
least-range-le f zero x small = absurd (omega arith)
least-range-le f (suc zero) x small = let first : x ≡ 0 = omega arith in rw first (omega arith)
least-range-le f (suc (suc n)) x small =
    let more = rw add-one at (least-range-more f (suc n) (omega arith)) in
    elim (cases_lt x (suc n)) [
      | inl before ↦ let rest = least-range-le f (suc n) x before in omega arith
      | inr after ↦ let last : x ≡ suc n = omega arith in rw last (omega arith)
    ]

module _ (weigh : ℕ → ℕ → ℕ) where
  -- the head at a machine and the times further along its row
  pub head_along : (row machine many : ℕ) →
      head weigh (suc row) machine + sum_by (weigh row) (range_with_len (machine + 1) many)
      ≤ head weigh (suc row) (machine + many)
  head_along row machine zero = rw (add-zero machine) (omega arith)
  head_along row machine (suc many) =
      let e : machine + 1 + many ≡ suc (machine + many) = omega arith in
      let before = head_along row machine many in
      let step = head_step weigh row (suc (machine + many)) in
      let more = rw e at (sum_by-range-suc (weigh row) (machine + 1) many) in
      rw (add-suc machine many) (omega arith)
