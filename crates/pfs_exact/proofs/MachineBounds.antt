-- The bounds on a machine, by one more job and by the machine before or after it.
use Rattle.std.proofs.Common.{◌≡◌, ℕ, suc, ◌+◌, ◌-◌, ◌<◌, ◌≤◌, max, List, [], ◌∷◌, ◌++◌, length}
use Rattle.std.proofs.Common.{sym, ap, ◌∙◌, subst, arith}
use Rattle.std.proofs.Math.Nat.{add-zero}
use Rattle.std.proofs.lemmas.List.Elements.{Contains-append_left, Contains-append_right}
use Rattle.std.proofs.lemmas.List.{append-nil, length-append}
use Rattle.std.proofs.lemmas.List.Sums.{sum_by-cons, sum_by_push}
use Rattle.pfs_base.specs.FlowShop.{FlowShop, time_of}
use Rattle.pfs_base.specs.Heads.{head_of}
use Rattle.pfs_base.specs.Paths.{makespan}
use Rattle.pfs_base.proofs.Published.Lists.{by_push}
use Rattle.pfs_order.specs.Sequence.{IsSequence}
use Rattle.pfs_audit.specs.Bound.{load_of}
use Rattle.pfs_audit.proofs.Published.Orders.{sum_by-order}
use Rattle.pfs_exact.specs.Private.Nodes.{times_on, IsFull, IsLeast, IsLeft, IsOpen, IsRest, IsStart}
use Rattle.pfs_exact.specs.Private.Nodes.{NoneShorter}
use Rattle.pfs_exact.proofs.GrownEnds.{front_as, from_front, back_as, from_back, first_small, first_open, last_small, last_open}
use Rattle.pfs_exact.proofs.Heads.{along, down, down_last, first, on, on_last, reach}
use Rattle.pfs_base.proofs.Published.HeadRows.{span_is}

-- ---- smaller times

pub start-le : (shop : FlowShop) (front back : List ℕ) (machine time less : ℕ) → less ≤ time
    → IsStart shop front back machine time → IsStart shop front back machine less
start-le shop front back machine time less small start job more full = let here = start job more full in omega arith

pub rest-le : (shop : FlowShop) (front back : List ℕ) (machine time less : ℕ) → less ≤ time
    → IsRest shop front back machine time → IsRest shop front back machine less
rest-le shop front back machine time less small rest middle full = let here = rest middle full in omega arith

pub left-le : (shop : FlowShop) (front back : List ℕ) (machine time less : ℕ) → less ≤ time
    → IsLeft shop front back machine time → IsLeft shop front back machine less
left-le shop front back machine time less small left middle full = let here = left middle full in omega arith

-- ---- the root

pub start_zero : (shop : FlowShop) (front back : List ℕ) (machine : ℕ) → IsStart shop front back machine 0
start_zero shop front back machine job more full = let here = first shop front job (more ++ back) machine in omega arith

pub rest_zero : (shop : FlowShop) (front : List ℕ) (machine : ℕ) → machine < shop.machines
    → IsRest shop front [] machine 0
rest_zero shop front machine small middle full =
    let order = front ++ (middle ++ []) in
    let last : machine + (shop.machines - 1 - machine) ≡ shop.machines - 1 = omega arith in
    let nil : length (middle ++ []) ≡ length middle = ap length (append-nil middle) in
    let len = length-append front (middle ++ []) in
    let all : length front + length middle ≡ length order = omega arith in
    let further = rw (last, all) at (along shop order (length front + length middle) machine (shop.machines - 1 - machine)) in
    let span = span_is shop order in
    rw all (omega arith)

pub left_all : (shop : FlowShop) (machine time : ℕ) → time ≤ load_of shop machine → IsLeft shop [] [] machine time
left_all shop machine time small middle full =
    let e : middle ++ [] ≡ middle = append-nil middle in
    let sequence = subst (IsSequence shop.jobs) e full.sequence in
    let all = sym (ap length e) ∙ full.full in
    let sum = sum_by-order (λ job. time_of shop job machine) shop.jobs middle sequence all in
    omega arith

-- ---- along the machines

pub start_on : (shop : FlowShop) (front back : List ℕ) (machine time least next : ℕ) → next ≤ time + least
    → ((job : ℕ) → job < shop.jobs → IsOpen front back job → least ≤ time_of shop job machine)
    → IsStart shop front back machine time → IsStart shop front back (suc machine) next
start_on shop front back machine time least next at every start job more full =
    let here = start job more full in
    let small = every job (first_small shop front job more back full) (first_open shop front job more back full) in
    let step = on shop front job (more ++ back) machine in
    omega arith

abbrev Rests : FlowShop → List ℕ → List ℕ → ℕ → ℕ → List ℕ → Type 0
Rests shop front back machine time middle = IsFull shop front middle back
    → head_of shop (front ++ (middle ++ back)) (length front + length middle) machine + time
    ≤ makespan shop (front ++ (middle ++ back))

pub rest_on : (shop : FlowShop) (front back : List ℕ) (machine time least next : ℕ) → next ≤ time + least
    → length front + length back < shop.jobs → IsLeast shop front back (suc machine) least
    → IsRest shop front back (suc machine) time → IsRest shop front back machine next
rest_on shop front back machine time least next at some is rest =
    by_push (Rests shop front back machine next)
    (λ full. let len = length-append front back in let all = full.full in absurd (omega arith))
    (λ more job before full.
    let here = rest (more ++ job ∷ []) full in
    let small = is.every job (last_small shop front job more back full) (last_open shop front job more back full) in
    let step = on_last shop front more job back machine in
    let order = front ++ ((more ++ job ∷ []) ++ back) in
    let rows : length front + length (more ++ job ∷ []) ≡ suc (length front + length more) =
    omega (arith, length-append more (job ∷ [])) in
    let one = ap (λ r. head_of shop order r machine) rows in
    let two = ap (λ r. head_of shop order r (suc machine)) rows in
    omega arith)

-- the jobs between and the start of the first of them
pub start_reach : (shop : FlowShop) (front back : List ℕ) (machine time : ℕ) → IsStart shop front back machine time
    → (job : ℕ) (more : List ℕ) → IsFull shop front (job ∷ more) back
    → time + times_on shop machine (job ∷ more)
    ≤ head_of shop (front ++ (job ∷ (more ++ back))) (length front + length (job ∷ more)) machine
start_reach shop front back machine time start job more full =
    let here = start job more full in
    let e = front_as shop front job more back in
    let long : length (front ++ job ∷ []) ≡ suc (length front) = length-append front (job ∷ []) ∙ omega arith in
    let rest = rw (e, long) at (reach shop (front ++ job ∷ []) more back machine) in
    let all = sum_by-cons (λ j. time_of shop j machine) job more in
    let rows : suc (length front) + length more ≡ length front + length (job ∷ more) = omega arith in
    let end = rw rows at rest in
    omega arith

-- ---- one more of the first jobs

module _ (shop : FlowShop) (front : List ℕ) (job : ℕ) (back : List ℕ) where
  long : length (front ++ job ∷ []) ≡ suc (length front)
  long = length-append front (job ∷ []) ∙ omega arith

  -- the job starts on a machine no sooner than at this time
  abbrev pub IsBefore : ℕ → ℕ → Type 0
  IsBefore machine time = (more : List ℕ) → IsFull shop front (job ∷ more) back
      → time + time_of shop job machine ≤ head_of shop (front ++ (job ∷ (more ++ back))) (suc (length front)) machine

  -- it ends there no sooner than at this time
  abbrev pub IsEnd : ℕ → ℕ → Type 0
  IsEnd machine time = (more : List ℕ) → IsFull shop front (job ∷ more) back
      → time ≤ head_of shop (front ++ (job ∷ (more ++ back))) (suc (length front)) machine

  pub before_zero : (machine : ℕ) → IsBefore machine 0
  before_zero machine more full = let own = first shop front job (more ++ back) machine in omega arith

  pub end_at : (machine before start time : ℕ) → time ≤ max before start + time_of shop job machine
      → IsBefore machine before → IsStart shop front back machine start → IsEnd machine time
  end_at machine before start time at is starts more full =
      let one = is more full in let two = starts job more full in omega arith

  pub before_on : (machine time : ℕ) → IsEnd machine time → IsBefore (suc machine) time
  before_on machine time end more full =
      let here = end more full in let step = on shop front job (more ++ back) machine in omega arith

  pub front_start : (machine time : ℕ) → IsEnd machine time → IsStart shop (front ++ job ∷ []) back machine time
  front_start machine time end next more full =
      let here = end (next ∷ more) (from_front shop front job (next ∷ more) back full) in
      let same = ap (λ l. head_of shop l (suc (length front)) machine) (front_as shop front job (next ∷ more) back) in
      let rows = ap (λ r. head_of shop ((front ++ job ∷ []) ++ next ∷ (more ++ back)) r machine) long in
      let step = down shop (front ++ job ∷ []) next (more ++ back) machine in
      omega arith

  pub front_rest : (machine time : ℕ) → IsRest shop front back machine time
      → IsRest shop (front ++ job ∷ []) back machine time
  front_rest machine time rest middle full =
      let here = rest (job ∷ middle) (from_front shop front job middle back full) in
      let order = front_as shop front job middle back in
      let rows : length front + length (job ∷ middle) ≡ length (front ++ job ∷ []) + length middle = omega (arith, long) in
      let moved = rw rows at here in
      let same = ap (λ l. head_of shop l (length (front ++ job ∷ []) + length middle) machine) order in
      let span = ap (makespan shop) order in
      omega arith

  pub front_left : (machine time less : ℕ) → less ≤ time - time_of shop job machine → IsLeft shop front back machine time
      → IsLeft shop (front ++ job ∷ []) back machine less
  front_left machine time less at left middle full =
      let here = left (job ∷ middle) (from_front shop front job middle back full) in
      let more = sum_by-cons (λ j. time_of shop j machine) job middle in
      omega arith

-- the next job starts on a machine no sooner than at this time; if there is none, the first jobs end there no sooner
pub record IsReady (shop : FlowShop) (front back : List ℕ) (machine time : ℕ) : Type 0 where
  pub none : IsFull shop front [] back → time ≤ head_of shop (front ++ back) (length front) machine
  pub some : IsStart shop front back machine time

pub ready_zero : (shop : FlowShop) (front back : List ℕ) (machine : ℕ) → IsReady shop front back machine 0
ready_zero shop front back machine = record { none = λ full. omega arith; some = start_zero shop front back machine }

pub ready_end : (shop : FlowShop) (front : List ℕ) (job : ℕ) (back : List ℕ) (machine one two : ℕ)
    → IsReady shop (front ++ job ∷ []) back machine one → IsEnd shop front job back machine two
    → IsReady shop (front ++ job ∷ []) back machine (max one two)
ready_end shop front job back machine one two ready end =
    let start = front_start shop front job back machine two end in
    record {
      none = λ full.
          let a = ready.none full in
          let b = end [] (from_front shop front job [] back full) in
          let same = ap (λ l. head_of shop l (suc (length front)) machine) (front_as shop front job [] back) in
          let rows = ap (λ r. head_of shop ((front ++ job ∷ []) ++ back) r machine) (long shop front job back) in
          omega arith;
      some = λ next more full. let a = ready.some next more full in let b = start next more full in omega arith;
    }

pub ready_on : (shop : FlowShop) (front : List ℕ) (job : ℕ) (back : List ℕ) (machine time least next : ℕ)
    → next ≤ time + least → IsLeast shop front back machine least → IsReady shop (front ++ job ∷ []) back machine time
    → IsReady shop (front ++ job ∷ []) back (suc machine) next
ready_on shop front job back machine time least next at is ready = record {
  none = λ full.
      let a = ready.none full in
      let zero_it = is.one job (from_front shop front job [] back full) in
      let further = along shop ((front ++ job ∷ []) ++ back) (length (front ++ job ∷ [])) machine 1 in
      let one : machine + 1 ≡ suc machine = omega arith in
      let moved = rw one at further in
      omega arith;
  some = start_on shop (front ++ job ∷ []) back machine time least next at
      (λ j small outside. is.every j small
      (λ among. outside.0 (Contains-append_left front (job ∷ []) j among), outside.1)) ready.some;
}

-- the bound on a machine
pub bound_at : (shop : FlowShop) (front back : List ℕ) (machine start left rest number : ℕ) → number ≤ start + left + rest
    → IsReady shop front back machine start → IsLeft shop front back machine left → IsRest shop front back machine rest
    → NoneShorter shop front back number
bound_at shop front back machine start left rest number at ready lefts rests [] full =
    let a = ready.none full in
    let b = lefts [] full in
    let c = rw (add-zero (length front)) at (rests [] full) in
    omega arith
bound_at shop front back machine start left rest number at ready lefts rests (job ∷ more) full =
    let a = start_reach shop front back machine start ready.some job more full in
    let b = lefts (job ∷ more) full in
    let c = rests (job ∷ more) full in
    omega arith

-- ---- one more of the last jobs

module _ (shop : FlowShop) (front : List ℕ) (job : ℕ) (back : List ℕ) where
  -- from the end of the job on a machine, there is at least this time to the end
  abbrev pub IsAfter : ℕ → ℕ → Type 0
  IsAfter machine time = (more : List ℕ) → IsFull shop front (more ++ job ∷ []) back
      → head_of shop (front ++ ((more ++ job ∷ []) ++ back)) (suc (length front + length more)) machine + time
      ≤ makespan shop (front ++ ((more ++ job ∷ []) ++ back))

  pub after_rest : (machine time : ℕ) → IsRest shop front back machine time → IsAfter machine time
  after_rest machine time rest more full =
      let rows : length front + length (more ++ job ∷ []) ≡ suc (length front + length more) =
      omega (arith, length-append more (job ∷ [])) in
      rw rows at (rest (more ++ job ∷ []) full)

  pub after_max : (machine one two : ℕ) → IsAfter machine one → IsAfter machine two → IsAfter machine (max one two)
  after_max machine one two a b more full = let c = a more full in let d = b more full in omega arith

  pub after-le : (machine time less : ℕ) → less ≤ time → IsAfter machine time → IsAfter machine less
  after-le machine time less small after more full = let here = after more full in omega arith

  pub after_on : (machine time next : ℕ) → next ≤ time + time_of shop job (suc machine) → IsAfter (suc machine) time
      → IsAfter machine next
  after_on machine time next at after more full =
      let here = after more full in
      let step = on_last shop front more job back machine in
      omega arith

  pub back_rest : (machine time next : ℕ) → next ≤ time + time_of shop job machine → IsAfter machine time
      → IsRest shop front (job ∷ back) machine next
  back_rest machine time next at after middle full =
      let here = after middle (from_back shop front job middle back full) in
      let step = down_last shop front middle job back machine in
      let order = back_as shop front job middle back in
      let same = ap (λ l. head_of shop l (length front + length middle) machine) order in
      let span = ap (makespan shop) order in
      omega arith

  pub back_start : (machine time : ℕ) → IsStart shop front back machine time → IsStart shop front (job ∷ back) machine time
  back_start machine time start next more full =
      let here = start next (more ++ job ∷ []) (from_back shop front job (next ∷ more) back full) in
      let same = ap (λ l. head_of shop l (suc (length front)) machine) (back_as shop front job (next ∷ more) back) in
      omega arith

  pub back_left : (machine time less : ℕ) → less ≤ time - time_of shop job machine → IsLeft shop front back machine time
      → IsLeft shop front (job ∷ back) machine less
  back_left machine time less at left middle full =
      let here = left (middle ++ job ∷ []) (from_back shop front job middle back full) in
      let more = sum_by_push (λ j. time_of shop j machine) middle job in
      omega arith

  -- from the end of the jobs between on a machine, there is at least this time to the end; if there are none, from the
  -- start of the job
  pub record IsTail (machine time : ℕ) : Type 0 where
    pub none : IsFull shop front (job ∷ []) back
        → head_of shop (front ++ (job ∷ back)) (suc (length front)) machine + time
        ≤ makespan shop (front ++ (job ∷ back)) + time_of shop job machine
    pub some : (middle : List ℕ) → 1 ≤ length middle → IsFull shop front middle (job ∷ back)
        → head_of shop (front ++ (middle ++ (job ∷ back))) (length front + length middle) machine + time
        ≤ makespan shop (front ++ (middle ++ (job ∷ back)))

  pub tail_after : (machine time next : ℕ) → next ≤ time + time_of shop job machine → IsAfter machine time
      → IsTail machine next
  tail_after machine time next at after = record {
    none = λ full. let here = rw (add-zero (length front)) at (after [] full) in omega arith;
    some = λ middle some full. back_rest machine time next at after middle full;
  }

  pub tail_max : (machine one two : ℕ) → IsTail machine one → IsTail machine two → IsTail machine (max one two)
  tail_max machine one two a b = record {
    none = λ full. let c = a.none full in let d = b.none full in omega arith;
    some = λ middle some full. let c = a.some middle some full in let d = b.some middle some full in omega arith;
  }

  abbrev Tails : ℕ → ℕ → List ℕ → Type 0
  Tails machine time middle = 1 ≤ length middle → IsFull shop front middle (job ∷ back)
      → head_of shop (front ++ (middle ++ (job ∷ back))) (length front + length middle) machine + time
      ≤ makespan shop (front ++ (middle ++ (job ∷ back)))

  pub tail_on : (machine time least next : ℕ) → next ≤ time + least → IsLeast shop front back (suc machine) least
      → IsTail (suc machine) time → IsTail machine next
  tail_on machine time least next at is tail = record {
    none = λ full.
        let here = tail.none full in
        let zero_it = is.one job full in
        let step = on shop front job back machine in
        omega arith;
    some = by_push (Tails machine next)
        (λ some full. absurd (omega arith))
        (λ more j before some full.
        let here = tail.some (more ++ j ∷ []) some full in
        let outside = last_open shop front j more (job ∷ back) full in
        let small = is.every j (last_small shop front j more (job ∷ back) full)
        (outside.0, λ among. outside.1 (Contains-append_right (job ∷ []) back j among)) in
        let step = on_last shop front more j (job ∷ back) machine in
        let order = front ++ ((more ++ j ∷ []) ++ (job ∷ back)) in
        let rows : length front + length (more ++ j ∷ []) ≡ suc (length front + length more) =
        omega (arith, length-append more (j ∷ [])) in
        let one = ap (λ r. head_of shop order r machine) rows in
        let two = ap (λ r. head_of shop order r (suc machine)) rows in
        omega arith);
  }

  pub bound_behind_at : (machine start left tail number : ℕ) → number ≤ start + left + tail - time_of shop job machine
      → IsStart shop front back machine start → IsLeft shop front back machine left → IsTail machine tail
      → NoneShorter shop front (job ∷ back) number
  bound_behind_at machine start left tail number at starts lefts tails [] full =
      let full2 = from_back shop front job [] back full in
      let a = starts job [] full2 in
      let b = lefts (job ∷ []) full2 in
      let c = tails.none full2 in
      let one = sum_by-cons (λ j. time_of shop j machine) job [] in
      omega arith
  bound_behind_at machine start left tail number at starts lefts tails (next ∷ more) full =
      let a = start_reach shop front (job ∷ back) machine start (back_start machine start starts) next more full in
      let b = back_left machine left (left - time_of shop job machine) (omega arith) lefts (next ∷ more) full in
      let c = tails.some (next ∷ more) (omega arith) full in
      omega arith
