use Rattle.std.proofs.Common.{◌≡◌, ℕ, ◌+◌, length, refl, arith}
use Rattle.pfs_insert.specs.Insertion.{makespan_with}
use Rattle.pfs_iterate.specs.Iterated.{tie_break}
use Rattle.pfs_iterate.proofs.Least.{behind_best, first_best_is}
use Rattle.pfs_iterate.proofs.places.find_place.Goals as goal

pub returns-then-options-best-clause-place : goal.returns-then-options-best-clause-place
returns-then-options-best-clause-place c =
    let options = c.args.options.now in
    let jobs = c.args.work.now.seq.jobs in
    let value = makespan_with c.args.instance.now.shop jobs c.args.job in
    let tie = tie_break c.args.instance.now.shop options.ties jobs c.args.job in
    let none : (p : ℕ) → tie p ≡ 0 = λ p. rw c.if-options-eq-TIES_FIRST.true refl in
    let best = c.best_of_all-best in
    record {
      place_is = first_best_is value tie options.held (length jobs + 1) best.result.place
          (behind_best value tie options.held (length jobs + 1) best.result.place best.ensures.best c.if-options-best.true none);
      from = c.if-options-best.true;
      within = omega (arith, best.ensures.best.within);
      spanned = best.ensures.span;
    }
