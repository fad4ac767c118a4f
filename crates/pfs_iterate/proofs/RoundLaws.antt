-- Rounds in parts, and rounds as those of `pfs_search`.
use Rattle.std.proofs.Common.{◌≡◌, ℕ, zero, suc, ◌+◌, List, [], ◌∷◌, ◌++◌, take as front, fold, filter, insert, length, remove, ap, refl, ◌∙◌, arith}
use Rattle.std.proofs.Common.{inl, inr}
use Rattle.std.specs.Prelude.{nat_le}
use Rattle.std.proofs.lemmas.Bool.{cases_Bool, le-ltb}
use Rattle.std.proofs.Math.Nat.{zero-add, suc-add, add-zero}
use Rattle.std.proofs.lemmas.List.{take-append-le, take_all}
use Rattle.pfs_base.specs.FlowShop.{FlowShop}
use Rattle.pfs_insert.specs.Insertion.{best_place, makespan_with, with_job}
use Rattle.pfs_search.specs.Greedy.{jobs_left, jobs_taken, place_of}
use Rattle.pfs_search.specs.Neh.{with_jobs}
use Rattle.pfs_iterate.specs.Alone.{by_ties}
use Rattle.pfs_iterate.specs.Laws.{PartsLaw, GreedyLaw, FirstLaw}
use Rattle.pfs_iterate.specs.declared.options.Options.{Options}
use Rattle.pfs_iterate.specs.Iterated.{after_round, chosen, first_best, order_of_round, is_accepted, is_free, left_among, put, tie_break}
use Rattle.pfs_iterate.specs.Iterated.{words_of_round}
use Rattle.pfs_iterate.specs.declared.options.TheConstants.{TIES_FIRST}
use Rattle.pfs_iterate.proofs.Among.{all_free, among_all}
use Rattle.pfs_iterate.proofs.Least.{first_best-none}

pub parts_law : PartsLaw
parts_law shop options accept stay first zero other state = rw (zero-add, add-zero) refl
parts_law shop options accept stay first (suc one) other state =
    let so_far : first + suc one ≡ first + 1 + one = omega arith in
    rw (suc-add, so_far) (parts_law shop options accept stay (first + 1) one other
    (after_round shop options accept stay state (words_of_round shop options first)))

-- an empty table accepts no longer order
accepted_none : (old new word : ℕ) → is_accepted [] old new word ≡ nat_le new old
accepted_none old new word =
    elim (cases_Bool (nat_le new old)) [
      | inl taken ↦ rw taken refl
      | inr longer ↦ rw (longer, le-ltb word 0 (omega arith)) refl
    ]

-- with no held job and the first of equally good places, a job is put at its best place
module _ (shop : FlowShop) (options : Options) (held : options.held ≡ 0) (ties : options.ties ≡ TIES_FIRST) where
  chosen_is : (jobs : List ℕ) (job : ℕ) → chosen shop options jobs job ≡ best_place shop jobs job
  chosen_is jobs job =
      ap (λ from. first_best (makespan_with shop jobs job) (tie_break shop options.ties jobs job) from (length jobs + 1)) held
      ∙ first_best-none (makespan_with shop jobs job) (tie_break shop options.ties jobs job) (length jobs + 1)
      (λ place. rw ties refl)

  put_is : (jobs : List ℕ) (job : ℕ) → put shop options jobs job ≡ with_job shop jobs job
  put_is jobs job = ap (λ place. insert jobs place job) (chosen_is jobs job)

  all_put : (jobs more : List ℕ) → fold (put shop options) jobs more ≡ with_jobs shop jobs more
  all_put jobs [] = refl
  all_put jobs (job ∷ more) = rw (put_is jobs job) (all_put (with_job shop jobs job) more)

  left_is : (order removing : List ℕ) → left_among (is_free []) order removing ≡ jobs_left order removing
  left_is order [] = refl
  left_is order (word ∷ removing) =
      rw (among_all order (place_of (filter (is_free []) order) word), all_free order)
      (left_is (remove order (place_of order word)) removing)

  order_is : (order removing others : List ℕ) → options.partial ≡ 0 → options.passes ≡ 0
      → front options.take (removing ++ others) ≡ removing
      → order_of_round shop options [] order (removing ++ others)
      ≡ with_jobs shop (jobs_left order removing) (jobs_taken order removing)
  order_is order removing others partial passes all =
      rw (all, held, partial, passes, all_free order, left_is order removing)
      (rw held at (all_put (jobs_left order removing) (jobs_taken order removing)))

pub greedy_law : GreedyLaw
greedy_law shop options state word removing others held partial passes ties long =
    let all : front options.take (removing ++ others) ≡ removing =
    take-append-le options.take removing others (omega arith) ∙ take_all options.take removing (omega arith) in
    rw (order_is shop options held ties state.current removing others partial passes all, accepted_none) refl

pub first_law : FirstLaw
first_law shop jobs more job = (
  chosen_is shop (by_ties TIES_FIRST) refl refl jobs job,
  all_put shop (by_ties TIES_FIRST) refl refl jobs more,
)
