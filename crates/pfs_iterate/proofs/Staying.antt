-- The jobs that stay keep their order while others move.
use Rattle.std.proofs.Common.{◌≡◌, ℕ, zero, suc, true, not, List, [], ◌∷◌, filter, fold, insert, refl}
use Rattle.std.proofs.Common.{inl, inr, ◌∙◌}
use Rattle.std.specs.Prelude.{nat_eq, nat_lt, drop}
use Rattle.std.specs.List.{list_any, AllByRecursion}
use Rattle.std.proofs.lemmas.Bool.{cases_Bool, eqb-true}
use Rattle.pfs_base.specs.FlowShop.{FlowShop}
use Rattle.pfs_base.specs.Paths.{makespan}
use Rattle.pfs_iterate.specs.declared.options.Options.{Options}
use Rattle.pfs_iterate.specs.Iterated.{chosen, settled, is_free, moved, put}
use Rattle.pfs_iterate.specs.Rounds.{staying}

module _ (stay : List ℕ) (job : ℕ) (free : is_free stay job ≡ true) where
  staying-insert : (place : ℕ) (jobs : List ℕ) → staying stay (insert jobs place job) ≡ staying stay jobs
  staying-insert zero jobs = rw free refl
  staying-insert (suc place) [] = rw free refl
  staying-insert (suc place) (other ∷ jobs) = rw (staying-insert place jobs) refl

  staying-without : (jobs : List ℕ) → staying stay (filter (λ other. not (nat_eq other job)) jobs) ≡ staying stay jobs
  staying-without [] = refl
  staying-without (other ∷ jobs) =
      elim (cases_Bool (nat_eq other job)) [
        | inl same ↦ rw (same, staying-without jobs) (rw (eqb-true other job same, free) refl)
        | inr differs ↦ rw (differs, staying-without jobs) refl
      ]

  staying-put : (shop : FlowShop) (options : Options) (jobs : List ℕ) → staying stay (put shop options jobs job) ≡ staying stay jobs
  staying-put shop options jobs = staying-insert (chosen shop options jobs job) jobs

  staying-moved : (shop : FlowShop) (options : Options) (jobs : List ℕ) → staying stay (moved shop options jobs job) ≡ staying stay jobs
  staying-moved shop options jobs =
      elim (cases_Bool (list_any (nat_eq job) (drop options.held jobs))) [
        | inl among ↦ rw among (staying-put shop options (filter (λ other. not (nat_eq other job)) jobs) ∙ staying-without jobs)
        | inr absent ↦ rw absent refl
      ]

module _ (stay : List ℕ) (shop : FlowShop) (options : Options) where
  abbrev AreFree : List ℕ → Type 0
  AreFree list = AllByRecursion (λ job. is_free stay job ≡ true) list

  pub staying-put_all : (jobs list : List ℕ) → AreFree list → staying stay (fold (put shop options) jobs list) ≡ staying stay jobs
  staying-put_all jobs [] free = refl
  staying-put_all jobs (job ∷ list) free =
      staying-put_all (put shop options jobs job) list free.1 ∙ staying-put stay job free.0 shop options jobs

  staying-pass : (jobs list : List ℕ) → AreFree list → staying stay (fold (moved shop options) jobs list) ≡ staying stay jobs
  staying-pass jobs [] free = refl
  staying-pass jobs (job ∷ list) free =
      staying-pass (moved shop options jobs job) list free.1 ∙ staying-moved stay job free.0 shop options jobs

  pub staying-settled : (list : List ℕ) (passes : ℕ) (jobs : List ℕ) → AreFree list
      → staying stay (settled shop options list passes jobs) ≡ staying stay jobs
  staying-settled list zero jobs free = refl
  staying-settled list (suc passes) jobs free =
      let next = fold (moved shop options) jobs list in
      elim (cases_Bool (nat_lt (makespan shop next) (makespan shop jobs))) [
        | inl shorter ↦ rw shorter (staying-settled list passes next free ∙ staying-pass jobs list free)
        | inr longer ↦ rw longer (staying-pass jobs list free)
      ]
