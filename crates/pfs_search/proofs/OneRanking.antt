-- Exactly one list is the ranking of the jobs.
use Rattle.std.proofs.Common.{◌≡◌, ℕ, zero, suc, ◌+◌, inl, inr, List, [], ◌∷◌, length, fold, ◌↔◌}
use Rattle.std.proofs.Common.{Contains, true, false, refl, ap, sym, ◌∙◌, arith, add-one}
use Rattle.std.specs.List.{All, AllPairs}
use Rattle.std.specs.List.Sorted.{IsPermutation}
use Rattle.std.proofs.lemmas.Bool.{cases_Bool}
use Rattle.std.proofs.lemmas.Bool.Decides.{nat_tests, Decides-eqb}
use Rattle.std.proofs.lemmas.List.Elements.{All-nil, All-cons, All-contains, All-weaker, Contains-append_right}
use Rattle.std.proofs.lemmas.List.Kept.{AllPairs-cons}
use Rattle.std.proofs.lemmas.List.Sums.{fold_push}
use Rattle.std.proofs.lemmas.List.Sorted.{IsPermutation-refl, IsPermutation-sym, IsPermutation-trans}
use Rattle.std.proofs.lemmas.List.Sorted.{IsPermutation-cons, IsPermutation-middle, IsPermutation-push_more}
use Rattle.std.proofs.lemmas.List.Sorted.{Contains-permutation, All-permutation, length_permutation}
use Rattle.std.proofs.lemmas.List.FromFn.{length-range_with_len, get_or-range_with_len}
use Rattle.std.proofs.lemmas.Map.Made.{IsDistinct-from_AllPairs}
use Rattle.pfs_base.specs.FlowShop.{FlowShop}
use Rattle.pfs_order.specs.Sequence.{IsSequence, all_jobs}
use Rattle.pfs_order.proofs.Published.Sequences.{IsSequence-permutation, absent-all_jobs, all_jobs_more}
use Rattle.pfs_order.proofs.Published.Sequences.{length-all_jobs}
use Rattle.pfs_search.specs.Ranking.{RanksBefore, IsRanking, ranks_before, ranked_with, ranking, RankingLaw}

-- ---- lists in which each element is related to all elements after it

Contains-after : {X : Type 0} (x : X) (xs : List X) (y : X) → Contains xs y → Contains (x ∷ xs) y
Contains-after x xs = Contains-append_right (x ∷ []) xs

module _ {X : Type 0} (R : X → X → Type 0) where
  AllPairs-head : (x : X) (xs : List X) → AllPairs R (x ∷ xs) → All (R x) xs
  AllPairs-head x xs h k d within = h zero (suc k) d (omega arith) (omega arith)

  AllPairs-tail : (x : X) (xs : List X) → AllPairs R (x ∷ xs) → AllPairs R xs
  AllPairs-tail x xs h i j d lt within = h (suc i) (suc j) d (omega arith) (omega arith)

-- two such lists with the same elements are equal, where no two elements are related both ways, and so none to itself
module _ {X : Type 0} (R : X → X → Type 0) (one_way : (x y : X) → R x y → R y x → ⊥) where
  only_first : (x y : X) (xs ys : List X) → All (R x) xs → All (R y) ys → Contains (y ∷ ys) x → Contains (x ∷ xs) y
      → x ≡ y
  only_first x y xs ys left right (zero, within, is) other = sym is
  only_first x y xs ys left right (suc k, within, at) (zero, below, is) = is
  only_first x y xs ys left right (suc k, within, at) (suc i, below, there) =
      absurd (one_way x y (All-contains (R x) xs y left (i, omega arith, there))
      (All-contains (R y) ys x right (k, omega arith, at)))

  after_first : (x q : X) (xs ys : List X) → All (R x) xs → Contains xs q → Contains (x ∷ ys) q → Contains ys q
  after_first x q xs ys before among (zero, within, is) =
      let itself = rw is at (All-contains (R x) xs q before among) in absurd (one_way q q itself itself)
  after_first x q xs ys before among (suc k, within, at) = (k, omega arith, at)

  only_order : (xs ys : List X) → AllPairs R xs → AllPairs R ys → ((q : X) → Contains xs q ↔ Contains ys q) → xs ≡ ys
  only_order [] [] left right same = refl
  only_order [] (y ∷ ys) left right same =
      let (k, within, at) = (same y).1 (0, omega arith, refl) in absurd (omega arith)
  only_order (x ∷ xs) [] left right same =
      let (k, within, at) = (same x).0 (0, omega arith, refl) in absurd (omega arith)
  only_order (x ∷ xs) (y ∷ ys) left right same =
      let first = AllPairs-head R x xs left in
      let other = AllPairs-head R y ys right in
      let is : x ≡ y = only_first x y xs ys first other ((same x).0 (0, omega arith, refl))
      ((same y).1 (0, omega arith, refl)) in
      let same_rest : (q : X) → Contains xs q ↔ Contains ys q = λ q. (
        (λ among. after_first x q xs ys first among (rw is ((same q).0 (Contains-after x xs q among)))),
        (λ among. after_first y q ys xs other among (rw (← is) ((same q).1 (Contains-after y ys q among)))),
      ) in
      rw is (ap (λ l. y ∷ l) (only_order xs ys (AllPairs-tail R x xs left) (AllPairs-tail R y ys right) same_rest))

-- ---- two rankings are equal

ranks_one_way : (shop : FlowShop) (job other : ℕ) → RanksBefore shop job other → RanksBefore shop other job → ⊥
ranks_one_way shop job other one back = omega arith

pub ranking_unique : (shop : FlowShop) (one other : List ℕ) → IsRanking shop one → IsRanking shop other → one ≡ other
ranking_unique shop one other left right =
    let there = IsPermutation-trans one (all_jobs shop.jobs) other (IsPermutation-sym _ one left.all) right.all in
    let back = IsPermutation-sym one other there in
    only_order (RanksBefore shop) (ranks_one_way shop) one other left.ranked right.ranked
    (λ q. (Contains-permutation one other q there, Contains-permutation other one q back))

-- ---- the computed ranking is one

-- of two different jobs, where the first doesn't rank before the second, the second ranks before the first
ranks_or : (shop : FlowShop) (job other : ℕ) → (job ≡ other → ⊥) → ranks_before shop job other ≡ false
    → RanksBefore shop other job
ranks_or shop job other apart test = grind (arith, nat_tests)

ranks_then : (shop : FlowShop) (job other : ℕ) → ranks_before shop job other ≡ true → RanksBefore shop job other
ranks_then shop job other test = grind (arith, nat_tests)

ranks_chain : (shop : FlowShop) (a b c : ℕ) → RanksBefore shop a b → RanksBefore shop b c → RanksBefore shop a c
ranks_chain shop a b c one other = grind arith

ranked_with_moves : (shop : FlowShop) (jobs : List ℕ) (job : ℕ) → IsPermutation (job ∷ jobs) (ranked_with shop jobs job)
ranked_with_moves shop [] job = IsPermutation-refl (job ∷ [])
ranked_with_moves shop (other ∷ others) job = elim (cases_Bool (ranks_before shop job other)) [
  | inl test ↦ rw test (IsPermutation-refl (job ∷ other ∷ others))
  | inr test ↦ rw test (
      IsPermutation-trans _ _ _ (IsPermutation-sym _ _ (IsPermutation-middle (other ∷ []) job others))
      (IsPermutation-cons other _ _ (ranked_with_moves shop others job)))
]

ranked_with_keeps : (shop : FlowShop) (jobs : List ℕ) (job : ℕ) → (Contains jobs job → ⊥)
    → AllPairs (RanksBefore shop) jobs → AllPairs (RanksBefore shop) (ranked_with shop jobs job)
ranked_with_keeps shop [] job absent h = AllPairs-cons (RanksBefore shop) job [] (All-nil (RanksBefore shop job)) h
ranked_with_keeps shop (other ∷ others) job absent h =
    let R = RanksBefore shop in
    let others_after = AllPairs-head R other others h in
    elim (cases_Bool (ranks_before shop job other)) [
      | inl test ↦
          let first = ranks_then shop job other test in
          let far = All-weaker (R other) (R job) (λ q. ranks_chain shop job other q first) others others_after in
          rw test (AllPairs-cons R job (other ∷ others) (All-cons (R job) other others first far) h)
      | inr test ↦
          let first = ranks_or shop job other (λ same. absent (0, omega arith, sym same)) test in
          let rest = ranked_with_keeps shop others job (λ among. absent (Contains-after other others job among))
          (AllPairs-tail R other others h) in
          rw test (AllPairs-cons R other (ranked_with shop others job) (All-permutation (R other) (job ∷ others) _
          (ranked_with_moves shop others job) (All-cons (R other) job others first others_after)) rest)
    ]

abbrev AreRanked : FlowShop → List ℕ → Type 0
AreRanked shop jobs =
    let ranked = fold (ranked_with shop) [] jobs in IsPermutation jobs ranked × AllPairs (RanksBefore shop) ranked

ranked_more : (shop : FlowShop) (count : ℕ) → AreRanked shop (all_jobs count) → AreRanked shop (all_jobs (count + 1))
ranked_more shop count (moved, kept) =
    let ranked : List ℕ = fold (ranked_with shop) [] (all_jobs count) in
    let absent : Contains ranked count → ⊥ =
    λ among. absent-all_jobs count (Contains-permutation ranked _ count (IsPermutation-sym _ ranked moved) among) in
    rw (all_jobs_more, fold_push) (
      IsPermutation-push_more _ ranked _ count moved (ranked_with_moves shop ranked count),
      ranked_with_keeps shop ranked count absent kept,
    )

are_ranked : (shop : FlowShop) (count : ℕ) → AreRanked shop (all_jobs count)
are_ranked shop zero = (IsPermutation-refl [], λ i j d lt within. absurd (omega arith))
are_ranked shop (suc count) = rw add-one at (ranked_more shop count (are_ranked shop count))

pub IsSequence-all_jobs : (size : ℕ) → IsSequence size (all_jobs size)
IsSequence-all_jobs size = record {
  in_range = λ k d within. grind (arith, length-range_with_len, get_or-range_with_len);
  distinct = IsDistinct-from_AllPairs Decides-eqb (all_jobs size) (λ i j d lt within.
      grind (arith, length-range_with_len, get_or-range_with_len));
}

pub ranking_is : (shop : FlowShop) → IsRanking shop (ranking shop)
ranking_is shop = let (all, ranked) = are_ranked shop shop.jobs in record { all = all; ranked = ranked }

pub IsSequence-ranking : (shop : FlowShop) → IsSequence shop.jobs (ranking shop)
IsSequence-ranking shop =
    IsSequence-permutation shop.jobs _ (ranking shop) (ranking_is shop).all (IsSequence-all_jobs shop.jobs)

pub length-ranking : (shop : FlowShop) → length (ranking shop) ≡ shop.jobs
length-ranking shop = length_permutation _ (ranking shop) (ranking_is shop).all ∙ length-all_jobs shop.jobs

pub ranking_law : RankingLaw
ranking_law shop = record {
  ranking = ranking_is shop;
  only = λ others is. ranking_unique shop others (ranking shop) is (ranking_is shop);
}
