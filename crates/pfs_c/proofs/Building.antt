-- What construction and local search find.
use Rattle.std.proofs.Common.{◌≡◌, ℕ, ◌<◌, List, [], ◌∷◌, length, All, Contains, Some, None}
use Rattle.std.proofs.Common.{get_or, insert, nat_eq, nat_lt, refl, ap, zero, suc, fold, filter, not, inl, inr, ◌∙◌, arith}
use Rattle.std.specs.List.{list_any}
use Rattle.pfs_iterate.specs.Alone.{by_ties}
use Rattle.pfs_iterate.specs.Iterated.{settled, moved as moved_by}
use Rattle.pfs_iterate.specs.Laws.{FirstLaw}
use Rattle.pfs_iterate.specs.declared.options.Options.{Options}
use Rattle.pfs_iterate.specs.declared.options.TheConstants.{TIES_FIRST}
use Rattle.std.proofs.lemmas.Bool.{cases_Bool}
use Rattle.std.proofs.lemmas.List.Elements.{All-head, All-tail}
use Rattle.std.proofs.lemmas.List.Sorted.{Contains-permutation}
use Rattle.std.specs.Cmp.{nat_eq_equiv}
use Rattle.std.proofs.lemmas.List.Folds.{list_all_at}
use Rattle.std.proofs.lemmas.List.Sorted.{length_permutation}
use Rattle.std.proofs.lemmas.List.Sums.{list_all-from_AllPass}
use Rattle.std.proofs.lemmas.Map.Views.{list_any-from_Contains}
use Rattle.pfs_base.specs.FlowShop.{FlowShop}
use Rattle.pfs_base.specs.Paths.{makespan}
use Rattle.pfs_order.specs.Sequence.{IsSequence}
use Rattle.pfs_order.proofs.Published.Sequences.{IsSequence-permutation}
use Rattle.pfs_search.specs.Greedy.{moved, pass_over, passes_over}
use Rattle.pfs_c.specs.declared.numbers.CallFault.TheVariants.{Job}
use Rattle.pfs_search.proofs.Published.Moves.{passes_keep}
use Rattle.pfs_c.specs.Building.{members_fault, IsLocalSearch}
use Rattle.pfs_c.proofs.Jobs.{absent_any}

-- ---- jobs of a list that are in a sequence

pub members_all : (sequence list : List ℕ) → All (λ job. Contains sequence job) list
    → members_fault sequence list ≡ None
members_all sequence list among =
    let found = list_all-from_AllPass (λ job. list_any (nat_eq job) sequence) list
    (λ k d lt. list_any-from_Contains nat_eq_equiv (get_or list k d) sequence (among k d lt)) in
    rw found refl

pub members_out : (sequence list : List ℕ) (i : ℕ) → i < length list → (Contains sequence (get_or list i 0) → ⊥)
    → members_fault sequence list ≡ Some Job
members_out sequence list i within absent =
    let job : ℕ = get_or list i 0 in
    let wrong = list_all_at (λ job. list_any (nat_eq job) sequence) list i 0 within (absent_any sequence job absent) in
    rw wrong refl

-- ---- what the calls find

-- ---- a pass by the first of equally good places is one of `pfs_search`

moved_same : FirstLaw → (shop : FlowShop) (jobs : List ℕ) (job : ℕ) → Contains jobs job
    → moved_by shop (by_ties TIES_FIRST) jobs job ≡ moved shop jobs job
moved_same first shop jobs job among =
    rw (list_any-from_Contains nat_eq_equiv job jobs among)
    (ap (λ place. insert (filter (λ other. not (nat_eq other job)) jobs) place job)
    (first shop (filter (λ other. not (nat_eq other job)) jobs) [] job).0)

alone : (jobs : List ℕ) (job : ℕ) → Contains jobs job → All (λ other. Contains jobs other) (job ∷ [])
alone jobs job among zero d lt = among
alone jobs job among (suc k) d lt = absurd (omega arith)

pass_same : FirstLaw → (shop : FlowShop) (list jobs : List ℕ) → IsSequence shop.jobs jobs
    → All (λ job. Contains jobs job) list
    → fold (moved_by shop (by_ties TIES_FIRST)) jobs list ≡ pass_over shop list jobs
pass_same first shop [] jobs distinct among = refl
pass_same first shop (job ∷ list) jobs distinct among =
    let here = All-head (λ j. Contains jobs j) job list among in
    let rest = All-tail (λ j. Contains jobs j) job list among in
    let next = moved shop jobs job in
    let same = (passes_keep shop jobs distinct (job ∷ []) 1 (alone jobs job here)).same in
    rw (moved_same first shop jobs job here)
    (pass_same first shop list next (IsSequence-permutation shop.jobs jobs next same distinct)
    (λ k d lt. Contains-permutation jobs next (get_or list k d) same (rest k d lt)))

once : (shop : FlowShop) (options : Options) (list jobs : List ℕ)
    → settled shop options list 1 jobs ≡ fold (moved_by shop options) jobs list
once shop options list jobs =
    elim (cases_Bool (nat_lt (makespan shop (fold (moved_by shop options) jobs list)) (makespan shop jobs))) [
      | inl shorter ↦ rw shorter refl
      | inr not_shorter ↦ rw not_shorter refl
    ]

pub pass_is : FirstLaw → (shop : FlowShop) (list jobs : List ℕ) → IsSequence shop.jobs jobs
    → All (λ job. Contains jobs job) list → settled shop (by_ties TIES_FIRST) list 1 jobs ≡ pass_over shop list jobs
pass_is first shop list jobs distinct among =
    once shop (by_ties TIES_FIRST) list jobs ∙ pass_same first shop list jobs distinct among

-- ---- what the calls find

pub search_is : (shop : FlowShop) (sequence list : List ℕ) (passes : ℕ) (found : List ℕ)
    → IsSequence shop.jobs sequence → All (λ job. Contains sequence job) list
    → found ≡ passes_over shop list passes sequence
    → IsLocalSearch shop sequence list passes found (makespan shop found)
search_is shop sequence list passes found distinct among is =
    let kept = passes_keep shop sequence distinct list passes among in
    rw is (record {
      found = refl;
      long = length_permutation sequence (passes_over shop list passes sequence) kept.same;
      distinct = IsSequence-permutation shop.jobs sequence (passes_over shop list passes sequence) kept.same distinct;
      spanned = refl;
      no_longer = kept.shorter;
    })
