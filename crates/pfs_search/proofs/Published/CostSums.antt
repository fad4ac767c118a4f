-- Sums of costs over successive counts.
use Rattle.std.proofs.Common.{◌≡◌, ℕ, zero, suc, ◌+◌, ◌-◌, ◌*◌, ◌<◌, ◌≤◌, inl, inr, ap, ◌∙◌}
use Rattle.std.proofs.Common.{add-one, mul-le-mul_left, arith}
use Rattle.std.specs.List.{range_with_len, sum_by}
use Rattle.std.proofs.lemmas.Bool.{cases_lt}
use Rattle.std.proofs.lemmas.List.Sums.{sum_by_push}
use Rattle.pfs_base.proofs.Published.Lists.{range_with_len-push}
use Rattle.pfs_search.specs.Costs.{insertions_cost, neh_cost, pass_cost, round_cost, CostsAsHeadsTails, CostsLaw}

-- the sum with one more count
sum_range_suc : (cost : ℕ → ℕ) (a n : ℕ)
    → sum_by cost (range_with_len a (suc n)) ≡ sum_by cost (range_with_len a n) + cost (a + n)
sum_range_suc cost a n = ap (sum_by cost) (range_with_len-push a n) ∙ sum_by_push cost (range_with_len a n) (a + n)

-- the sum of the counts so far and the next is at most the sum of all
sum_range_le : (cost : ℕ → ℕ) (a n k : ℕ) → k < n
    → sum_by cost (range_with_len a k) + cost (a + k) ≤ sum_by cost (range_with_len a n)
sum_range_le cost a zero k lt = absurd (omega arith)
sum_range_le cost a (suc n) k lt =
    let more = sum_range_suc cost a n in
    elim (cases_lt k n) [
      | inl before ↦ let rest = sum_range_le cost a n k before in omega arith
      | inr last ↦ let e : k ≡ n = omega arith in rw e (omega arith)
    ]

-- the cost with one more insertion
pub insertions_more : (cost : ℕ → ℕ → ℕ) (machines before done : ℕ) →
    insertions_cost cost machines before (done + 1)
    ≡ insertions_cost cost machines before done + cost (before + done + 1) machines
insertions_more cost machines before done =
    let same : before + 1 + done ≡ before + done + 1 = omega arith in
    rw (add-one done, ← same) (sum_range_suc (λ count. cost count machines) (before + 1) done)

-- the cost of the insertions so far and the next is at most that of all
pub insertions_within : (cost : ℕ → ℕ → ℕ) (machines before take done : ℕ) → done < take →
    insertions_cost cost machines before done + cost (before + done + 1) machines
    ≤ insertions_cost cost machines before take
insertions_within cost machines before take done lt =
    let same : before + 1 + done ≡ before + done + 1 = omega arith in
    rw same at (sum_range_le (λ count. cost count machines) (before + 1) take done lt)

-- ---- closed forms

-- the cost of `n` insertions by heads and tails into a sequence of `a` jobs
heads_tails_sum : (cost : ℕ → ℕ → ℕ) → CostsAsHeadsTails cost → (a machines n : ℕ) →
    insertions_cost cost machines a n ≡ 2 * n * machines * (2 * a + n)
heads_tails_sum cost is a machines zero = omega arith
heads_tails_sum cost is a machines (suc n) =
    let before = heads_tails_sum cost is a machines n in
    let more = sum_range_suc (λ count. cost count machines) (a + 1) n in
    let width : 4 * (a + 1 + n) - 2 ≡ 4 * a + 4 * n + 2 = omega arith in
    let next = rw width at (is (a + 1 + n) machines (omega arith)) in
    omega arith

neh_closed : (cost : ℕ → ℕ → ℕ) → CostsAsHeadsTails cost → (jobs machines : ℕ)
    → neh_cost cost jobs machines ≡ 2 * machines * (jobs * jobs)
neh_closed cost is jobs machines = let all = heads_tails_sum cost is 0 machines jobs in omega arith

pass_closed : (cost : ℕ → ℕ → ℕ) → CostsAsHeadsTails cost → (jobs machines : ℕ)
    → pass_cost cost jobs machines ≡ jobs * machines * (4 * jobs - 2)
pass_closed cost is zero machines = omega arith
pass_closed cost is (suc fewer) machines =
    let jobs : ℕ = suc fewer in
    let each = is jobs machines (omega arith) in
    let all = ap (λ cells. jobs * cells) each in
    omega arith

round_closed : (cost : ℕ → ℕ → ℕ) → CostsAsHeadsTails cost → (jobs machines take passes : ℕ) → take ≤ jobs
    → round_cost cost jobs machines take passes
    ≡ 2 * take * machines * (2 * jobs - take) + passes * jobs * machines * (4 * jobs - 2)
round_closed cost is jobs machines take passes few =
    let put_back = heads_tails_sum cost is (jobs - take) machines take in
    let passed = ap (λ cells. passes * cells) (pass_closed cost is jobs machines) in
    let width : 2 * (jobs - take) + take ≡ 2 * jobs - take = omega arith in
    let closed = ap (λ w. 2 * take * machines * w) width in
    omega arith

-- the insertions of a round cost at most `take` insertions into an order of all other jobs
put_back_few : (count jobs machines take : ℕ) → take ≤ jobs
    → count * (2 * take * machines * (2 * jobs - take)) ≤ count * take * machines * (4 * jobs - 2)
put_back_few count jobs machines zero few = omega arith
put_back_few count jobs machines (suc fewer) few =
    let take : ℕ = suc fewer in
    let le : 2 * (2 * jobs - take) ≤ 4 * jobs - 2 = omega arith in
    let most = mul-le-mul_left (count * take * machines) le in
    omega arith

rounds_closed : (cost : ℕ → ℕ → ℕ) → CostsAsHeadsTails cost → (count jobs machines take passes : ℕ) → take ≤ jobs
    → count * round_cost cost jobs machines take passes ≤ count * (take + passes * jobs) * machines * (4 * jobs - 2)
rounds_closed cost is count jobs machines take passes few =
    let closed = ap (λ cells. count * cells) (round_closed cost is jobs machines take passes few) in
    let put_back = put_back_few count jobs machines take few in
    omega arith

pub costs_law : CostsLaw
costs_law cost is = record {
  neh = neh_closed cost is;
  pass = pass_closed cost is;
  round = round_closed cost is;
  rounds = rounds_closed cost is;
}
