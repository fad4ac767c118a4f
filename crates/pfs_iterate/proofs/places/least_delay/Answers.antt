use Rattle.std.proofs.Common.{◌≡◌, ℕ, ◌+◌, ◌<◌, ◌≤◌, length, take, get_or, ◌∙◌, refl, sym, ap, subst, arith}
use Rattle.pfs_iterate.specs.Iterated.{total_delay}
use Rattle.pfs_iterate.specs.Private.Steps.{IsBestFrom}
use Rattle.pfs_iterate.proofs.Delays.{delay_in_front}
use Rattle.pfs_iterate.proofs.Least.{best_of_all, best_same, next_better, next_no_better}
use Rattle.pfs_iterate.proofs.places.least_delay.Goals as goal
use Rattle.pfs_iterate.proofs.places.least_delay.Goals.{then-spans-place+then-delay-least, then-spans-place+else-delay-least, else-spans-place}

pub loop-place-preserved : goal.loop-place-preserved
loop-place-preserved c =
    let value = λ (k : ℕ). get_or c.args.spans.now k 0 in
    let tie = total_delay c.args.instance.now.shop c.follow.new.self.jobs.items c.args.job in
    let held = c.args.held in
    let place = c.loop-place.place in
    let found = c.loop-place.found in
    let invariant = c.loop-place.invariant in
    let best = invariant.best in
    let least = c.requires.least in
    let no_less : value found ≤ value place = omega (
      arith,
      best.from,
      best.within,
      invariant.span,
      c.requires.span,
      c.loop-place-test.true,
      least.last_within,
      least.least place,
    ) in
    elim c.if-spans-place.branch [
      | then-spans-place+then-delay-least w ↦
          let same : value place ≡ value found = omega (arith, w.if-spans-place.true, invariant.span) in
          let less : tie place < tie found = omega (arith, w.if-delay-least.true, w.delay-delay.ensures, invariant.least) in
          record {
            best = subst (λ (k : ℕ). IsBestFrom value tie held (place + 1) k) (sym w.found-is)
                (next_better value tie held place found best same less);
            span = ap value w.found-is ∙ w.if-spans-place.true;
            least = w.least-is ∙ w.delay-delay.ensures ∙ ap tie (sym w.found-is);
          }
      | then-spans-place+else-delay-least w ↦ record {
        best = subst (λ (k : ℕ). IsBestFrom value tie held (place + 1) k) (sym w.found-is)
            (next_no_better value tie held place found best no_less
            (λ _. omega (arith, w.if-delay-least.false, w.delay-delay.ensures, invariant.least)));
        span = ap value w.found-is ∙ invariant.span;
        least = w.least-is ∙ invariant.least ∙ ap tie (sym w.found-is);
      }
      | else-spans-place w ↦ record {
        best = subst (λ (k : ℕ). IsBestFrom value tie held (place + 1) k) (sym w.found-is)
            (next_no_better value tie held place found best no_less
            (λ same. absurd (w.if-spans-place.false (same ∙ invariant.span))));
        span = ap value w.found-is ∙ invariant.span;
        least = w.least-is ∙ invariant.least ∙ ap tie (sym w.found-is);
      }
    ]

pub returns-clause-best : goal.returns-clause-best
returns-clause-best c =
    let shop = c.args.instance.now.shop in
    let jobs = c.args.seq.now.jobs in
    let job = c.args.job in
    let value = λ (k : ℕ). get_or c.args.spans.now k 0 in
    let headed = c.follow.new.self.jobs.items in
    let found = c.loop-place.found in
    let last = c.args.best.now.last in
    let least = c.requires.least in
    let invariant = c.loop-place.invariant in
    let count = c.min.result in
    let is : headed ≡ take count jobs = rw c.as_slice.ensures.value at c.follow.ensures.jobs in
    let same_tie : (k : ℕ) → k < last + 1 → total_delay shop headed job k ≡ total_delay shop jobs job k =
    λ k before. ap (λ list. total_delay shop list job k) is
    ∙ delay_in_front shop jobs job k count
    (omega (arith, c.min.ensures, c.len.ensures.value))
    (omega (arith, before, least.last_within, c.requires.long))
    (λ inside. omega (arith, inside, before, c.min.ensures, c.len.ensures.value))
    (λ at. omega (arith, at, before, c.min.ensures, c.len.ensures.value)) in
    let all : c.loop-place.place ≡ last + 1 = omega (arith, c.loop-place-test.false, c.loop-place.auto.place-end, least.within) in
    let so_far : IsBestFrom value (total_delay shop headed job) c.args.held (last + 1) found = rw all at invariant.best in
    best_of_all value (total_delay shop jobs job) c.args.held (length c.args.spans.now) c.args.best.now.place last found
    least (invariant.span ∙ c.requires.span)
    (best_same value (total_delay shop headed job) value (total_delay shop jobs job) c.args.held (last + 1) found
    (λ k _. refl) same_tie so_far)
