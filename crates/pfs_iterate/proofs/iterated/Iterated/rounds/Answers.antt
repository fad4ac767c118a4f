use Rattle.std.proofs.Common.{ℕ, sym, subst, ◌∙◌}
use Rattle.pfs_order.specs.Sequence.{IsSequence}
use Rattle.pfs_iterate.proofs.iterated.Iterated.rounds.Goals as goal

pub returns-clause-done : goal.returns-clause-done
returns-clause-done c =
    let ready = c.play.ensures.ready in
    let later = c.play.ensures.later in
    let current = c.set.ensures.order in
    let best = c.set-2.ensures.order in
    let end = c.play.new.self in
    record {
      done = rw (c.copy_order.ensures.value, c.copy_order-2.ensures.value, ← current, ← best) c.play.ensures.done;
      current_order = rw c.copy_order.ensures.value (record {
        all = ready.current.all;
        distinct = subst (λ (n : ℕ). IsSequence n end.current.order) ready.current.all c.copy_order.ensures.sequence;
        front = rw (← current) later.current_front;
      });
      best_order = rw c.copy_order-2.ensures.value (record {
        all = ready.best.all;
        distinct = subst (λ (n : ℕ). IsSequence n end.best.order) ready.best.all c.copy_order-2.ensures.sequence;
        front = (rw current at later.best_front) ∙ sym c.requires.front;
      });
      current_staying = rw (c.copy_order.ensures.value, ← current) later.current_staying;
      best_staying = λ same. rw (c.copy_order-2.ensures.value, ← current)
          (later.best_staying (rw (current, best) same));
      current_spanned = rw c.copy_order.ensures.value ready.current.spanned;
      best_spanned = rw c.copy_order-2.ensures.value ready.best.spanned;
      no_longer = rw (c.set-2.ensures.measured.spanned, best) at later.no_longer;
    }
