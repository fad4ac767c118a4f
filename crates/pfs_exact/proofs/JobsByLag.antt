-- Bounds of two machines by the jobs in the order of their lags.
use Rattle.std.proofs.Common.{Ordering, ◌≡◌, ℕ, zero, suc, ◌+◌, ◌-◌, ◌<◌, ◌≤◌, List, [], ◌∷◌, length, map, get_or, take, drop}
use Rattle.std.proofs.Common.{false, sym, ap, ◌∙◌, subst, add-one, arith}
use Rattle.std.specs.Cmp.{IsStrictWeakOrder}
use Rattle.std.specs.List.{sum_by}
use Rattle.std.specs.Ordering.{is_lt, nat_cmp, ordering_then}
use Rattle.std.specs.List.Sorted.{IsSorted}
use Rattle.std.proofs.Math.Seq.{drop-cons}
use Rattle.std.proofs.lemmas.Bool.Decides.{nat_tests}
use Rattle.std.proofs.lemmas.Cmp.{nat_cmp_total, on_total, then_total, back_total}
use Rattle.std.proofs.lemmas.List.{get_or-map, length-map}
use Rattle.std.proofs.lemmas.List.FromFn.{get_or-range_with_len}
use Rattle.std.proofs.lemmas.List.Sorted.{All-permutation, length_permutation, ranks_by, sorted_far, sum_by-IsPermutation}
use Rattle.std.proofs.lemmas.List.Sums.{sum_by-cons, sum_by-le-sum_by}
use Rattle.pfs_base.specs.FlowShop.{FlowShop}
use Rattle.pfs_order.specs.Sequence.{all_jobs}
use Rattle.pfs_order.proofs.Published.Sequences.{length-all_jobs}
use Rattle.pfs_exact.specs.Private.Lags.{AreLags, Lag, lag_of, shorter_of}
use Rattle.pfs_exact.proofs.TwoMachines.{weight}

-- ---- lists of which a part has one value and the rest another

sum_split : (f g w : ℕ → ℕ) → ((x : ℕ) → g x ≤ w x) → (list : List ℕ) (count : ℕ)
    → ((i : ℕ) → i < count → i < length list → f (get_or list i 0) ≤ w (get_or list i 0))
    → sum_by f (take count list) + sum_by g (drop count list) ≤ sum_by w list
sum_split f g w below [] zero front = omega arith
sum_split f g w below [] (suc count) front = omega arith
sum_split f g w below (x ∷ list) zero front = let all = sum_by-le-sum_by g w (x ∷ list) below in omega arith
sum_split f g w below (x ∷ list) (suc count) front =
    let here = front 0 (omega arith) (omega arith) in
    let rest = sum_split f g w below list count (λ i lt inside. front (suc i) (omega arith) (omega arith)) in
    let one = sum_by-cons f x (take count list) in
    let two = sum_by-cons w x list in
    omega arith

pub sum_drop : (f : ℕ → ℕ) (list : List ℕ) (at : ℕ) → at < length list
    → sum_by f (drop at list) ≡ f (get_or list at 0) + sum_by f (drop (at + 1) list)
sum_drop f list at inside =
    ap (sum_by f) (drop-cons list at 0 inside) ∙ sum_by-cons f (get_or list at 0) (drop (suc at) list)
    ∙ ap (λ k. f (get_or list at 0) + sum_by f (drop k list)) (sym (add-one at))

-- ---- entries that were sorted

abbrev entry_cmp : Lag → Lag → Ordering
entry_cmp x y = ordering_then (nat_cmp y.0.0 x.0.0) (nat_cmp x.1 y.1)

entry_order : IsStrictWeakOrder (λ x y. is_lt (entry_cmp x y))
entry_order = ranks_by (then_total (on_total (λ (x : Lag). x.0.0) (back_total nat_cmp_total))
    (on_total (λ (x : Lag). x.1) nat_cmp_total)) (λ (x : Lag). x)

not_before : (lag other job other_job : ℕ)
    → is_lt (ordering_then (nat_cmp lag other) (nat_cmp other_job job)) ≡ false → other ≤ lag
not_before lag other job other_job test = grind (arith, nat_tests)

pub falls : (lags : List Lag) → IsSorted entry_cmp lags → (i j : ℕ) (d : Lag) → i ≤ j → j < length lags
    → (get_or lags j d).0.0 ≤ (get_or lags i d).0.0
falls lags up i j d le lt =
    let x = get_or lags i d in
    let y = get_or lags j d in
    not_before x.0.0 y.0.0 x.1 y.1 (sorted_far (λ a b. is_lt (entry_cmp a b)) entry_order lags up i j d le lt)

-- ---- a bound by the jobs up to a turn

-- a job's time on the far machine
abbrev pub time_in : FlowShop → ℕ → List ℕ → ℕ → ℕ
time_in shop far across job = get_or across job 0 - lag_of shop far across job

module _ (shop : FlowShop) (near far : ℕ) (across : List ℕ) (lags : List Lag) (are : AreLags shop far across lags) where
  abbrev pub jobs : List ℕ
  jobs = map (λ (entry : Lag). entry.1) lags

  pub many : length lags ≡ shop.jobs
  many = sym (length-map lags (λ (entry : Lag). entry.1)) ∙ length_permutation (all_jobs shop.jobs) jobs are.jobs
      ∙ length-all_jobs shop.jobs

  pub job_at : (turn : ℕ) (d : Lag) → turn < length lags → get_or jobs turn 0 ≡ (get_or lags turn d).1
  job_at turn d lt = get_or-map (λ (entry : Lag). entry.1) lags turn d 0 lt

  pub job_small : (turn : ℕ) (d : Lag) → turn < length lags → (get_or lags turn d).1 < shop.jobs
  job_small turn d lt =
      let small = All-permutation (λ job. job < shop.jobs) (all_jobs shop.jobs) jobs are.jobs
      (λ i other inside.
      let below : i < shop.jobs = omega (arith, inside, length-all_jobs shop.jobs) in
      let is = get_or-range_with_len 0 shop.jobs i other below in omega (arith, is, below)) in
      subst (λ job. job < shop.jobs) (job_at turn d lt)
      (small turn 0 (omega (arith, lt, length-map lags (λ (entry : Lag). entry.1))))

  -- the entry that is read at a turn
  pub record IsEntry (turn : ℕ) (entry : Lag) : Type 0 where
    pub small : entry.1 < shop.jobs
    pub lag : entry.0.0 ≡ lag_of shop far across entry.1
    pub place : entry.1 ≡ get_or jobs turn 0

  pub entry_is : (turn : ℕ) (entry : Lag) → turn < shop.jobs → entry ≡ get_or lags turn entry → IsEntry turn entry
  entry_is turn entry below read =
      let within : turn < length lags = omega (arith, below, many) in
      record {
        small = subst (λ (e : Lag). e.1 < shop.jobs) (sym read) (job_small turn entry within);
        lag = subst (λ (e : Lag). e.0.0 ≡ lag_of shop far across e.1) (sym read) (are.each turn entry within);
        place = ap (λ (e : Lag). e.1) read ∙ sym (job_at turn entry within);
      }

  pub up_to : (turn lag done left number : ℕ) (d : Lag) → turn < length lags → lag ≡ (get_or lags turn d).0.0
      → done ≤ sum_by (time_in shop far across) (take (turn + 1) jobs)
      → left ≤ sum_by (shorter_of shop near far) (drop (turn + 1) jobs) → number ≤ lag + (done + left)
      → number ≤ lag + sum_by (weight shop near far across lag) (all_jobs shop.jobs)
  up_to turn lag done left number d lt is done_le left_le number_le =
      let w = weight shop near far across lag in
      let sum = sum_split (time_in shop far across) (shorter_of shop near far) w (λ x. omega arith) jobs (turn + 1)
      (λ i below inside.
      let short : i < length lags = omega (arith, below, lt) in
      let job = (get_or lags i d).1 in
      let its = are.each i d short in
      let fall = are.falling i turn d (omega (arith, below)) lt in
      let here : time_in shop far across job ≤ w job = omega (arith, its, fall, is) in
      subst (λ j. time_in shop far across j ≤ w j) (sym (job_at i d short)) here) in
      let all = sum_by-IsPermutation w (all_jobs shop.jobs) jobs are.jobs in
      omega (arith, sum, all, done_le, left_le, number_le)
