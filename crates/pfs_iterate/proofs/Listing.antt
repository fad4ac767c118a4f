-- The jobs that words name among all jobs, from the last word to the first.
use Rattle.std.proofs.Common.{◌≡◌, ℕ, zero, suc, ◌+◌, ◌<◌, ◌≤◌, ◌%◌, ◌++◌, List, [], ◌∷◌, length, get_or, map, remove, reverse, refl, sym, ap, ap₂, subst, ◌∙◌}
use Rattle.std.proofs.Common.{add-one, inl, inr, arith}
use Rattle.std.specs.List.{All, range_with_len}
use Rattle.std.proofs.lemmas.Bool.{cases_lt, le-leb, lt-leb}
use Rattle.std.proofs.lemmas.List.{get_or-map, length-map, map-append, reverse-append}
use Rattle.std.proofs.lemmas.List.Edits.{length-remove}
use Rattle.std.proofs.lemmas.List.Elements.{All-cons, All-map, All-nil}
use Rattle.std.proofs.lemmas.List.Sorted.{All-permutation, IsPermutation-reverse}
use Rattle.std.proofs.lemmas.List.FromFn.{get_or-range_with_len, length-range_with_len}
use Rattle.pfs_order.specs.Sequence.{all_jobs}
use Rattle.pfs_search.specs.Greedy.{jobs_taken}
use Rattle.pfs_iterate.specs.Private.Steps.{renumbered}

raised_more : (one job : ℕ) → one ≤ job → renumbered one job ≡ suc job
raised_more one job more = rw (le-leb one job more) refl

raised_less : (one job : ℕ) → job < one → renumbered one job ≡ job
raised_less one job less = rw (lt-leb one job less) refl

raised_small : (one job count : ℕ) → job < count → renumbered one job < suc count
raised_small one job count small = elim (cases_lt job one) [
  | inl less ↦ rw (raised_less one job less) (omega arith)
  | inr more ↦ rw (raised_more one job more) (omega arith)
]

-- ---- all jobs but one

range_raised : (one a n : ℕ) → one ≤ a → map (renumbered one) (range_with_len a n) ≡ range_with_len (a + 1) n
range_raised one a zero more = refl
range_raised one a (suc n) more =
    ap₂ (λ job jobs. job ∷ jobs) (raised_more one a more ∙ sym (add-one a)) (range_raised one (a + 1) n (omega arith))

range_without : (a n p : ℕ) → p ≤ n → remove (range_with_len a (suc n)) p ≡ map (renumbered (a + p)) (range_with_len a n)
range_without a n zero within = sym (range_raised (a + 0) a n (omega arith))
range_without a zero (suc p) within = absurd (omega arith)
range_without a (suc n) (suc p) within =
    let here : a ≡ renumbered (a + suc p) a = sym (raised_less (a + suc p) a (omega arith)) in
    let same : a + 1 + p ≡ a + suc p = omega arith in
    ap₂ (λ job jobs. job ∷ jobs) here (rw same at (range_without (a + 1) n p (omega arith)))

-- ---- other numbers of the jobs

remove_map : (f : ℕ → ℕ) (xs : List ℕ) (i : ℕ) → remove (map f xs) i ≡ map f (remove xs i)
remove_map f [] zero = refl
remove_map f [] (suc i) = refl
remove_map f (x ∷ xs) zero = refl
remove_map f (x ∷ xs) (suc i) = ap (λ rest. f x ∷ rest) (remove_map f xs i)

taken_map : (f : ℕ → ℕ) (jobs words : List ℕ) → length words ≤ length jobs
    → jobs_taken (map f jobs) words ≡ map f (jobs_taken jobs words)
taken_map f jobs [] few = refl
taken_map f jobs (word ∷ words) few =
    let place = word % length jobs in
    let within : place < length jobs = omega arith in
    let rest : length words ≤ length (remove jobs place) = omega (arith, length-remove jobs place within) in
    rw (length-map jobs f) (ap₂ (λ job taken. job ∷ taken) (get_or-map f jobs place 0 0 within)
    (ap (λ list. jobs_taken list words) (remove_map f jobs place) ∙ taken_map f (remove jobs place) words rest))

-- ---- one more word, before the others

pub taken_first : (n word : ℕ) (words : List ℕ) → length words ≤ n
    → jobs_taken (all_jobs (suc n)) (word ∷ words)
    ≡ word % suc n ∷ map (renumbered (word % suc n)) (jobs_taken (all_jobs n) words)
taken_first n word words few =
    let place = word % suc n in
    let within : place < suc n = omega arith in
    rw (length-range_with_len 0 (suc n)) (ap₂ (λ job taken. job ∷ taken) (get_or-range_with_len 0 (suc n) place 0 within ∙ omega arith)
    (ap (λ list. jobs_taken list words) (range_without 0 n place (omega arith))
    ∙ taken_map (renumbered (0 + place)) (all_jobs n) words (omega (arith, length-range_with_len 0 n, few))
    ∙ ap (λ p. map (renumbered p) (jobs_taken (all_jobs n) words)) (omega arith)))

taken_small : (n : ℕ) (words : List ℕ) → length words ≤ n → All (λ job. job < n) (jobs_taken (all_jobs n) words)
taken_small n [] few = All-nil (λ job. job < n)
taken_small zero (word ∷ words) few = absurd (omega arith)
taken_small (suc n) (word ∷ words) few =
    let rest : length words ≤ n = omega arith in
    let small = taken_small n words rest in
    let place = word % suc n in
    subst (All (λ job. job < suc n)) (sym (taken_first n word words rest))
    (All-cons (λ job. job < suc n) place (map (renumbered place) (jobs_taken (all_jobs n) words))
    (omega arith) (All-map (λ job. job < suc n) (renumbered place) (jobs_taken (all_jobs n) words)
    (λ k d within. raised_small place (get_or (jobs_taken (all_jobs n) words) k d) n (small k d within))))

pub length-taken : (jobs words : List ℕ) → length (jobs_taken jobs words) ≡ length words
length-taken jobs [] = refl
length-taken jobs (word ∷ words) = ap suc (length-taken (remove jobs (word % length jobs)) words)

-- ---- from the last to the first

pub reversed_small : (n : ℕ) (words : List ℕ) → length words ≤ n
    → All (λ job. job < n) (reverse (jobs_taken (all_jobs n) words))
reversed_small n words few = All-permutation (λ job. job < n) (jobs_taken (all_jobs n) words)
    (reverse (jobs_taken (all_jobs n) words)) (IsPermutation-reverse (jobs_taken (all_jobs n) words)) (taken_small n words few)

reverse_map : (f : ℕ → ℕ) (xs : List ℕ) → reverse (map f xs) ≡ map f (reverse xs)
reverse_map f [] = refl
reverse_map f (x ∷ xs) =
    reverse-append (f x ∷ []) (map f xs) ∙ ap (λ list. list ++ f x ∷ []) (reverse_map f xs)
    ∙ sym (map-append f (reverse xs) (x ∷ [])) ∙ ap (map f) (sym (reverse-append (x ∷ []) xs))

pub reverse_more : (f : ℕ → ℕ) (x : ℕ) (xs : List ℕ) → reverse (x ∷ map f xs) ≡ map f (reverse xs) ++ x ∷ []
reverse_more f x xs = reverse-append (x ∷ []) (map f xs) ∙ ap (λ list. list ++ x ∷ []) (reverse_map f xs)
