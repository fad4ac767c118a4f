use Rattle.std.proofs.Common.{◌≡◌, ℕ, ◌+◌, ◌≤◌, List, length, get_or, refl, sym, ◌∙◌, inl, inr, arith}
use Rattle.std.proofs.lemmas.Bool.{ne_eqb}
use Rattle.pfs_base.specs.FlowShop.{FlowShop}
use Rattle.pfs_insert.specs.Insertion.{makespan_with}
use Rattle.pfs_iterate.specs.Iterated.{chosen, tie_break, total_delay}
use Rattle.pfs_iterate.specs.Private.Steps.{IsBestFrom}
use Rattle.pfs_iterate.specs.declared.options.Options.{Options}
use Rattle.pfs_iterate.specs.declared.options.TheConstants.{TIES_IDLE}
use Rattle.pfs_iterate.proofs.Least.{alone_best, best_same, first_best_is, plain_best}
use Rattle.pfs_iterate.proofs.places.choose.Goals as goal

module _ (shop : FlowShop) (options : Options) (jobs : List ℕ) (job : ℕ) where
  abbrev tie : ℕ → ℕ
  tie = tie_break shop options.ties jobs job

  chosen_is : (spans : List ℕ) (place : ℕ)
      → ((k : ℕ) → k ≤ length jobs → get_or spans k 0 ≡ makespan_with shop jobs job k) → length spans ≡ length jobs + 1
      → IsBestFrom (λ k. get_or spans k 0) tie options.held (length spans) place → place ≡ chosen shop options jobs job
  chosen_is spans place are long is =
      first_best_is (makespan_with shop jobs job) tie options.held (length jobs + 1) place
      (best_same (λ k. get_or spans k 0) tie (makespan_with shop jobs job) tie options.held (length jobs + 1) place
      (λ k small. are k (omega arith)) (λ k _. refl) (rw long at is))

  by_delay : options.ties ≡ TIES_IDLE → (place : ℕ) → total_delay shop jobs job place ≡ tie place
  by_delay idle place = rw idle refl

  by_nothing : (options.ties ≡ TIES_IDLE → ⊥) → (place : ℕ) → tie place ≡ 0
  by_nothing other place = rw (ne_eqb options.ties TIES_IDLE other) refl

pub returns-then-options-ne-TIES_IDLE-clause-place : goal.returns-then-options-ne-TIES_IDLE-clause-place
returns-then-options-ne-TIES_IDLE-clause-place c =
    let shop = c.args.instance.now.shop in
    let options = c.args.options.now in
    let jobs = c.args.seq.now.jobs in
    let spans = c.args.spans.now in
    let best = c.least_from-best.result in
    let value = λ (k : ℕ). get_or spans k 0 in
    let tie = tie_break shop options.ties jobs c.args.job in
    let least = c.least_from-best.ensures.least in
    let within : best.place ≤ length jobs = omega (arith, least.within, least.last_within, c.requires.long) in
    record {
      place_is = chosen_is shop options jobs c.args.job spans best.place c.requires.spans c.requires.long
          (elim c.then-options-ne-TIES_IDLE.either [
            | inl other ↦ plain_best value tie options.held (length spans) best.place best.last least
                (by_nothing shop options jobs c.args.job other)
            | inr both ↦ alone_best value tie options.held (length spans) best.place best.last least both.1
          ]);
      from = least.from;
      within = within;
      spanned = c.least_from-best.ensures.span ∙ c.requires.spans best.place within;
    }

pub returns-clause-place : goal.returns-clause-place
returns-clause-place c =
    let shop = c.args.instance.now.shop in
    let options = c.args.options.now in
    let jobs = c.args.seq.now.jobs in
    let spans = c.args.spans.now in
    let value = λ (k : ℕ). get_or spans k 0 in
    let place = c.least_delay-place.result in
    let best = c.least_delay-place.ensures.best in
    let within : place ≤ length jobs = omega (arith, best.within, c.requires.long) in
    record {
      place_is = chosen_is shop options jobs c.args.job spans place c.requires.spans c.requires.long
          (best_same value (total_delay shop jobs c.args.job) value (tie_break shop options.ties jobs c.args.job) options.held
          (length spans) place (λ k _. refl) (λ k _. by_delay shop options jobs c.args.job c.if-options-ne-TIES_IDLE.false k)
          best);
      from = best.from;
      within = within;
      spanned = sym c.least_delay-place.ensures.span ∙ c.requires.spans place within;
    }
