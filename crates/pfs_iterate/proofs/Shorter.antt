-- Passes make no sequence longer.
use Rattle.std.proofs.Common.{◌≡◌, ℕ, zero, suc, ◌+◌, ◌-◌, ◌<◌, ◌≤◌, List, [], ◌∷◌, length, get_or, drop, fold, insert, remove}
use Rattle.std.proofs.Common.{nat_eq, ap, sym, ◌∙◌, inl, inr, arith}
use Rattle.std.specs.List.{list_any}
use Rattle.std.proofs.lemmas.Bool.{cases_Bool, cases_lt, cases_order, eqb-true, le-ltb, lt-ltb}
use Rattle.std.proofs.lemmas.List.{get_or-drop, get_or_default, length-drop}
use Rattle.std.proofs.lemmas.List.Edits.{length-remove}
use Rattle.std.proofs.lemmas.List.Sorted.{IsPermutation-insert, IsPermutation-remove, IsPermutation-trans}
use Rattle.std.proofs.lemmas.Map.Views.{Contains-from_any}
use Rattle.pfs_base.specs.FlowShop.{FlowShop}
use Rattle.pfs_base.specs.Paths.{makespan}
use Rattle.pfs_order.specs.Sequence.{IsSequence}
use Rattle.pfs_order.proofs.Published.Sequences.{IsSequence-permutation, insert-remove, others_are}
use Rattle.pfs_insert.specs.Insertion.{makespan_with}
use Rattle.pfs_iterate.specs.declared.options.Options.{Options}
use Rattle.pfs_iterate.specs.Iterated.{chosen, first_best, settled, moved, tie_break}
use Rattle.pfs_iterate.specs.Private.Steps.{IsBestFrom}
use Rattle.pfs_iterate.proofs.Least.{first_best_is, next_better, next_no_better}

module _ (value tie : ℕ → ℕ) (held : ℕ) where
  -- of some places one is the best
  some_best : (more : ℕ) → (place : ℕ) × IsBestFrom value tie held (held + more + 1) place
  some_best zero = (
    held,
    record {
      from = omega arith;
      within = omega arith;
      least = λ other behind small. let at : other ≡ held = omega arith in rw at (omega arith);
      tied = λ other behind small same. let at : other ≡ held = omega arith in rw at (omega arith);
      first = λ other behind before same. absurd (omega arith);
    },
  )
  some_best (suc more) =
      let (place, is) = some_best more in
      let count : ℕ = held + more + 1 in
      let long : held + suc more + 1 ≡ count + 1 = omega arith in
      rw long (elim (cases_order (value count) (value place)) [
        | inl same ↦ elim (cases_lt (tie count) (tie place)) [
          | inl less ↦ (count, next_better value tie held count place is same less)
          | inr no_less ↦ (place, next_no_better value tie held count place is (omega arith) (λ _. no_less))
        ]
        | inr (inl shorter) ↦ (
          count,
          record {
            from = omega (arith, is.from, is.within);
            within = omega arith;
            least = λ other behind small. elim (cases_lt other count) [
              | inl before ↦ omega (arith, shorter, is.least other behind before)
              | inr here ↦ let at : other ≡ count = omega arith in rw at (omega arith)
            ];
            tied = λ other behind small equal. elim (cases_lt other count) [
              | inl before ↦ absurd (omega (arith, shorter, equal, is.least other behind before))
              | inr here ↦ let at : other ≡ count = omega arith in rw at (omega arith)
            ];
            first = λ other behind before equal. absurd (omega (arith, shorter, equal, is.least other behind before));
          },
        )
        | inr (inr longer) ↦ (place, next_no_better value tie held count place is (omega arith) (λ same. absurd (omega arith)))
      ])

  first_best_least : (count other : ℕ) → held ≤ other → other < count → value (first_best value tie held count) ≤ value other
  first_best_least count other behind small =
      let (place, found) = some_best (count - held - 1) in
      let all : held + (count - held - 1) + 1 ≡ count = omega arith in
      let is : IsBestFrom value tie held count place = rw all at found in
      rw (← first_best_is value tie held count place is) (is.least other behind small)

module _ (shop : FlowShop) (options : Options) where
  -- a sequence that is no longer than another one
  record IsNoLonger (old new : List ℕ) : Type 0 where
    sequence : IsSequence shop.jobs new
    shorter : makespan shop new ≤ makespan shop old

  moved_kept : (old jobs : List ℕ) (job : ℕ) → IsNoLonger old jobs → IsNoLonger old (moved shop options jobs job)
  moved_kept old jobs job kept = elim (cases_Bool (list_any (nat_eq job) (drop options.held jobs))) [
    | inl found ↦
        let (k, small, at) = Contains-from_any eqb-true job (drop options.held jobs) found in
        let place : ℕ = options.held + k in
        let within : place < length jobs = omega (arith, small, length-drop options.held jobs) in
        let there : job ≡ get_or jobs place job = sym at ∙ get_or-drop options.held jobs k job in
        let here : job ≡ get_or jobs place 0 = there ∙ get_or_default jobs place job 0 within in
        let rest : List ℕ = remove jobs place in
        let to : ℕ = chosen shop options rest job in
        let fewer = length-remove jobs place within in
        let least : makespan_with shop rest job to ≤ makespan_with shop rest job place =
        first_best_least (makespan_with shop rest job) (tie_break shop options.ties rest job) options.held (length rest + 1)
        place (omega arith) (omega arith) in
        rw (found, others_are shop.jobs place job jobs kept.sequence within here) (record {
          sequence = IsSequence-permutation shop.jobs jobs (insert rest to job)
              (IsPermutation-trans jobs (job ∷ rest) (insert rest to job)
              (IsPermutation-remove jobs place job within there) (IsPermutation-insert rest to job)) kept.sequence;
          shorter = omega (arith, ap (makespan shop) (insert-remove place job jobs within here), least, kept.shorter);
        })
    | inr none ↦ rw none kept
  ]

  pass_kept : (list old jobs : List ℕ) → IsNoLonger old jobs → IsNoLonger old (fold (moved shop options) jobs list)
  pass_kept [] old jobs kept = kept
  pass_kept (job ∷ list) old jobs kept =
      pass_kept list old (moved shop options jobs job) (moved_kept old jobs job kept)

  pub settled_shorter : (list : List ℕ) (passes : ℕ) (jobs : List ℕ) → IsSequence shop.jobs jobs
      → makespan shop (settled shop options list passes jobs) ≤ makespan shop jobs
  settled_shorter list zero jobs sequence = omega arith
  settled_shorter list (suc passes) jobs sequence =
      let next : List ℕ = fold (moved shop options) jobs list in
      let kept = pass_kept list jobs jobs (record { sequence = sequence; shorter = omega arith }) in
      elim (cases_lt (makespan shop next) (makespan shop jobs)) [
        | inl shorter ↦ rw (lt-ltb (makespan shop next) (makespan shop jobs) shorter)
            (omega (arith, shorter, settled_shorter list passes next kept.sequence))
        | inr no_shorter ↦ rw (le-ltb (makespan shop next) (makespan shop jobs) no_shorter) kept.shorter
      ]
