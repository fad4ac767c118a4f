use Rattle.std.proofs.Common.{◌≡◌, ◌+◌, ◌-◌, ◌⊎◌, inl, inr, length, take as front, ap, sym, ◌∙◌, arith}
use Rattle.pfs_search.specs.Solution.{words_after}
use Rattle.pfs_search.proofs.Published.Words.{later}
use Rattle.pfs_iterate.specs.Iterated.{State, after_round, after_rounds, words_of_round}
use Rattle.pfs_iterate.specs.Private.Keeping.{orders_of}
use Rattle.pfs_iterate.proofs.Keeping.{later_then}
use Rattle.pfs_iterate.proofs.Passes.{rounds_more}
use Rattle.pfs_iterate.proofs.Words.{first_of_round, generator_more, length-round, round_used}
use Rattle.pfs_iterate.proofs.iterated.Iterated.play.Goals as goal

pub loop-done-preserved : goal.loop-done-preserved
loop-done-preserved c =
    let shop = c.args.instance.now.shop in
    let options = c.args.options.now in
    let accept = c.args.accept.now in
    let stay = c.args.stay.now in
    let done = c.loop-done._done in
    let invariant = c.loop-done.invariant in
    let gives = c.round.ensures in
    let before : State = orders_of c.loop-done.self in
    let each = c.jobs.result + options.take + 1 in
    let used = c.words_used-used.result in
    let used_is = c.words_used-used.ensures in
    let words = words_of_round shop options (options.first + done) in
    let each_is = length-round options.seed (options.first + done) (shop.jobs + options.take + 1) in
    let either : (used ≡ length words) ⊎ ((options.partial ≡ 0) × (options.passes ≡ 0)) =
    elim used_is.all [
      | inl all ↦ inl (omega (arith, all, each_is, c.jobs.ensures.value))
      | inr none ↦ inr none
    ] in
    let drawn : front used c.draw.new.list.items ≡ front used words =
    rw invariant.rng at c.draw.ensures.words
    ∙ first_of_round options.seed (options.first + done) each used used_is.few
    ∙ ap (λ n. front used (words_after options.seed (options.first + done) 1 (n + options.take + 1))) c.jobs.ensures.value in
    record {
      done = ap (after_rounds shop options accept stay (options.first + (done + 1)) (options.count - (done + 1)))
          (gives.done ∙ ap (after_round shop options accept stay before) drawn
          ∙ round_used shop options accept stay before words used used_is.some either)
          ∙ sym (rounds_more shop options accept stay options.first options.count done before c.loop-done-test.true)
          ∙ invariant.done;
      ready = gives.ready;
      later = later_then options.held stay _ _ _ invariant.later (record {
        no_longer = gives.later.no_longer;
        current_front = gives.later.current_front;
        best_front = gives.later.best_front;
        current_staying = gives.later.current_staying;
        best_staying = gives.later.best_staying;
        kept = gives.later.kept;
        cells = gives.later.cells;
      });
      rng = c.draw.ensures.rest ∙ ap (later each) invariant.rng
          ∙ sym (generator_more options.seed options.first done each);
    }
