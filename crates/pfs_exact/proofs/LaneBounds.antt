-- The bounds of a child, machine by machine, in one lane of eight.
use Rattle.std.proofs.Common.{◌≡◌, ℕ, suc, ◌+◌, ◌-◌, ◌<◌, ◌≤◌, max, List, [], ◌∷◌, ◌++◌, add-one, sym, ap, subst, arith}
use Rattle.pfs_base.specs.FlowShop.{FlowShop, time_of}
use Rattle.pfs_audit.specs.Bound.{IsLowerBound}
use Rattle.pfs_exact.specs.Private.Ahead.{IsSum}
use Rattle.pfs_exact.specs.Private.Nodes.{IsLeast, IsLeft, IsRest, IsStart, NoneShorter}
use Rattle.pfs_exact.proofs.MachineBounds.{IsBefore, IsReady, before_zero, before_on, end_at, front_left, front_rest}
use Rattle.pfs_exact.proofs.MachineBounds.{ready_zero, ready_end, ready_on, bound_at}
use Rattle.pfs_exact.proofs.MachineBounds.{IsAfter, IsTail, after-le, after_max, after_on, after_rest, bound_behind_at}
use Rattle.pfs_exact.proofs.MachineBounds.{tail_after, tail_max, tail_on}
use Rattle.pfs_exact.proofs.GrownEnds.{to_none}

module _ (shop : FlowShop) (front : List ℕ) (job : ℕ) (back : List ℕ) where
  -- what the numbers of a lane mean before a machine, with one more of the first jobs
  pub record IsAhead (machine before next most : ℕ) : Type 0 where
    pub start : IsBefore shop front job back machine before
    pub ready : IsReady shop (front ++ job ∷ []) back machine next
    pub bound : NoneShorter shop (front ++ job ∷ []) back most

  pub ahead_none : (before next most : ℕ) → before ≡ 0 → next ≡ 0 → IsLowerBound shop most → IsAhead 0 before next most
  ahead_none before next most zero_before zero_next low = record {
    start = subst (IsBefore shop front job back 0) (sym zero_before) (before_zero shop front job back 0);
    ready = subst (IsReady shop (front ++ job ∷ []) back 0) (sym zero_next) (ready_zero shop (front ++ job ∷ []) back 0);
    bound = to_none shop (front ++ job ∷ []) back most low;
  }

  pub ahead_more : (machine before next most time start least sum end both after number : ℕ)
      → time ≡ time_of shop job machine → IsStart shop front back machine start → IsLeast shop front back machine least
      → IsSum (IsLeft shop front back machine) (IsRest shop front back machine) sum
      → end ≤ max before start + time → both ≤ max next end + sum → after ≤ max next end + least
      → number ≤ max most (both - time) → IsAhead machine before next most → IsAhead (machine + 1) end after number
  ahead_more machine before next most time start least sum end both after number taken starts short sums at adds later is are =
      let left = sums.one in
      let rest = sums.other in
      let most_sum = sums.most in
      let ended = end_at shop front job back machine before start end (omega arith) are.start starts in
      let ready = ready_end shop front job back machine next end are.ready ended in
      let bound = bound_at shop (front ++ job ∷ []) back machine (max next end) (left - time) rest (both - time) (omega arith)
      ready (front_left shop front job back machine left (left - time) (omega arith) sums.is_one)
      (front_rest shop front job back machine rest sums.is_other) in
      record {
        start = subst (λ m. IsBefore shop front job back m end) (sym (add-one machine))
            (before_on shop front job back machine end ended);
        ready = subst (λ m. IsReady shop (front ++ job ∷ []) back m after) (sym (add-one machine))
            (ready_on shop front job back machine (max next end) least after later short ready);
        bound = λ middle full. let one = are.bound middle full in let two = bound middle full in omega arith;
      }

  -- with one more of the last jobs
  pub record IsBehind (turn after last most : ℕ) : Type 0 where
    pub rest : turn < shop.machines → IsAfter shop front job back (shop.machines - 1 - turn) after
    pub tail : turn < shop.machines → IsTail shop front job back (shop.machines - 1 - turn) last
    pub bound : NoneShorter shop front (job ∷ back) most

  pub behind_none : (rest after last most : ℕ) → (0 < shop.machines → IsRest shop front back (shop.machines - 1 - 0) rest)
      → after ≡ 0 → last ≡ 0 → IsLowerBound shop most → IsBehind 0 after last most
  behind_none rest after last most rests zero_after zero_last low =
      let machine : ℕ = shop.machines - 1 - 0 in
      let afters = λ (some : 0 < shop.machines). after-le shop front job back machine rest after (omega arith)
      (after_rest shop front job back machine rest (rests some)) in
      record {
        rest = afters;
        tail = λ some. tail_after shop front job back machine after last (omega arith) (afters some);
        bound = to_none shop front (job ∷ back) most low;
      }

  pub behind_more : (turn after last most time rest least sum end both later number : ℕ) → turn < shop.machines
      → time ≡ time_of shop job (shop.machines - 1 - turn) → IsRest shop front back (shop.machines - 1 - turn) rest
      → IsLeast shop front back (shop.machines - 1 - turn) least
      → IsSum (IsLeft shop front back (shop.machines - 1 - turn)) (IsStart shop front back (shop.machines - 1 - turn)) sum
      → end ≤ max after rest + time → both ≤ max last end + sum → later ≤ max last end + least
      → number ≤ max most (both - time) → IsBehind turn after last most → IsBehind (turn + 1) end later number
  behind_more turn after last most time rest least sum end both later number small taken rests short sums at adds on is are =
      let machine : ℕ = shop.machines - 1 - turn in
      let left = sums.one in
      let start = sums.other in
      let most_sum = sums.most in
      let tail : ℕ = max last end in
      let afters = after_max shop front job back machine after rest (are.rest small)
      (after_rest shop front job back machine rest rests) in
      let tails = tail_max shop front job back machine last end (are.tail small)
      (tail_after shop front job back machine (max after rest) end (omega arith) afters) in
      let bound = bound_behind_at shop front job back machine start left tail (both - time) (omega arith)
      sums.is_other sums.is_one tails in
      let next : ℕ = shop.machines - 1 - (turn + 1) in
      let step = λ (some : turn + 1 < shop.machines). let e : machine ≡ suc next = omega arith in e in
      record {
        rest = λ some.
            let there = ap (time_of shop job) (step some) in
            after_on shop front job back next (max after rest) end (omega arith)
            (subst (λ m. IsAfter shop front job back m (max after rest)) (step some) afters);
        tail = λ some. tail_on shop front job back next tail least later on
            (subst (λ m. IsLeast shop front back m least) (step some) short)
            (subst (λ m. IsTail shop front job back m tail) (step some) tails);
        bound = λ middle full. let one = are.bound middle full in let two = bound middle full in omega arith;
      }
