-- Rows of a table, each computed from another row, a value at a time.
use Rattle.std.proofs.Common.{◌≡◌, ℕ, zero, suc, ◌+◌, ◌-◌, ◌*◌, ◌<◌, ◌≤◌, ◌⊎◌, Bool, true, false, max, List, ◌++◌, length}
use Rattle.std.proofs.Common.{get_or, set, refl, ap, ◌∙◌, inl, inr, add-one, arith}
use Rattle.std.proofs.Math.Nat.{mul-le-mul_right}
use Rattle.std.proofs.lemmas.Bool.{cases_lt}
use Rattle.std.proofs.lemmas.List.{get_or-set_same, get_or-set_other, get_or_append_left}
use Rattle.std.proofs.lemmas.List.{get_or-append-add}
use Rattle.pfs_base.specs.declared.limits.TheConstants.{MOST_JOBS, MOST_MACHINES, LONGEST_TIME}
use Rattle.pfs_base.specs.FlowShop.{FlowShop}
use Rattle.pfs_insert.specs.Private.Rows.{in_turn, next_row, place_of, AreSameOutside, AreShort, AreValues, HasRow}

-- the value before a machine, and 0 before the first
abbrev pub value_before : (ℕ → ℕ) → ℕ → ℕ
value_before values zero = 0
value_before values (suc machine) = values machine

-- a value of a row, from the value above it and the value before it
next_row_at : (times above : ℕ → ℕ) (m : ℕ) →
    next_row times above m ≡ max (above m) (value_before (next_row times above) m) + times m
next_row_at times above zero = refl
next_row_at times above (suc m) = refl

-- equal times and equal rows above give equal rows
pub next_row_same : (times others above below : ℕ → ℕ) (m : ℕ) → ((k : ℕ) → k ≤ m → times k ≡ others k)
    → ((k : ℕ) → k ≤ m → above k ≡ below k) → next_row times above m ≡ next_row others below m
next_row_same times others above below zero same_times same =
    omega (arith, same_times 0 (omega arith), same 0 (omega arith))
next_row_same times others above below (suc m) same_times same =
    let rest = next_row_same times others above below m (λ k le. same_times k (omega arith))
    (λ k le. same k (omega arith)) in
    omega (arith, same_times (suc m) (omega arith), same (suc m) (omega arith))

abbrev pub other : Bool → Bool
other true = false
other false = true

-- a place counted from the other end
other_place : (back : Bool) (count place : ℕ) → place < count
    → in_turn back count (count - 1 - place) ≡ in_turn (other back) count place
other_place true count place lt = omega arith
other_place false count place lt = refl

pub in_turn_lt : (back : Bool) (count turn : ℕ) → turn < count → in_turn back count turn < count
in_turn_lt true count turn lt = omega arith
in_turn_lt false count turn lt = lt

in_turn_apart : (back : Bool) (count turn other : ℕ) → turn < other → other < count
    → (in_turn back count turn < in_turn back count other) ⊎ (in_turn back count other < in_turn back count turn)
in_turn_apart true count turn other less lt = inr (omega arith)
in_turn_apart false count turn other less lt = inl less

-- a row ends where the next one begins
pub row_fits : (row count width : ℕ) → row < count → row * width + width ≤ count * width
row_fits row count width lt =
    let more : row + 1 ≤ count = omega arith in let le = mul-le-mul_right width more in omega arith

-- a row that isn't among what changed
pub row_kept : {X : Type 0} (number : X → ℕ) (shop : FlowShop) (old new : List X) (back : Bool) {from : ℕ} (row : ℕ)
    (values : ℕ → ℕ) (to : ℕ) → AreSameOutside shop old new back from to → row < from → row < 2 * shop.jobs
    → HasRow number shop old back row values → HasRow number shop new back row values
row_kept number shop old new back {from} row values to same before inside known turn d lt =
    let ends = row_fits row from shop.machines before in
    let all = row_fits row (2 * shop.jobs) shop.machines inside in
    ap number (same _ d (omega arith) (inl (omega arith))) ∙ known turn d lt

-- a row counted from the other end, which isn't among what changed
pub other_kept : {X : Type 0} (number : X → ℕ) (shop : FlowShop) (old new : List X) (back : Bool) (row : ℕ)
    (values : ℕ → ℕ) → AreSameOutside shop old new back 1 shop.jobs → row < shop.jobs
    → HasRow number shop old (other back) row values → HasRow number shop new (other back) row values
other_kept number shop old new back row values same inside known turn d lt =
    let ends = row_fits row shop.jobs shop.machines inside in
    let all = 2 * (shop.jobs * shop.machines) in
    let place = row * shop.machines + turn in
    let at = other_place back all place (omega arith) in
    ap number (rw (← at) (same (all - 1 - place) d (omega arith) (inr (omega arith)))) ∙ known turn d lt

-- where the lengths of a row are, counted from either end of a list of `size` lengths
row_place : (back : Bool) (size start width place turn : ℕ) → turn < width → place + width ≤ size
    → in_turn back size place ≡ start + in_turn back width 0 → in_turn back size (place + turn) ≡ start + in_turn back width turn
row_place true size start width place turn lt fits at = omega arith
row_place false size start width place turn lt fits at = omega arith

-- a part of a table is one of its rows
pub put_part : {X : Type 0} (number : X → ℕ) (shop : FlowShop) (back : Bool) (row : ℕ) (front part rest : List X)
    (values : ℕ → ℕ) → length part ≡ shop.machines
    → row * shop.machines + shop.machines ≤ 2 * (shop.jobs * shop.machines)
    → place_of shop back (row * shop.machines) ≡ length front + in_turn back shop.machines 0
    → AreValues number part shop.machines back values → HasRow number shop (front ++ (part ++ rest)) back row values
put_part number shop back row front part rest values wide fits at known turn d lt =
    let k = in_turn back shop.machines turn in
    let small = in_turn_lt back shop.machines turn lt in
    rw (row_place back (2 * (shop.jobs * shop.machines)) (length front) shop.machines (row * shop.machines) turn lt fits
    at) (ap number (get_or-append-add front (part ++ rest) k d ∙ get_or_append_left part rest d k (omega arith))
    ∙ known turn d lt)

-- the rows at the front of a list are those of the front
pub row_in_front : {X : Type 0} (shop : FlowShop) (front rest : List X) (back : Bool) (row turn : ℕ) (d : X)
    → length front ≡ 2 * (shop.jobs * shop.machines) → row < 2 * shop.jobs → turn < shop.machines
    → get_or (front ++ rest) (place_of shop back (row * shop.machines + turn)) d
    ≡ get_or front (place_of shop back (row * shop.machines + turn)) d
row_in_front shop front rest back row turn d long inside lt =
    let ends = row_fits row (2 * shop.jobs) shop.machines inside in
    let small = in_turn_lt back (2 * (shop.jobs * shop.machines)) (row * shop.machines + turn) (omega arith) in
    get_or_append_left front rest d _ (omega arith)

-- `turn` lengths of a row are filled, and `x` is the latest of them
pub record Filled {X : Type 0} (number : X → ℕ) (machines : ℕ) (times : ℕ → ℕ) (back : Bool) (given row : List X)
    (turn : ℕ) (x : X) : Type 0 where
  pub filled : (values : ℕ → ℕ) → AreValues number given machines back values → (t : ℕ) (d : X) → t < turn
      → number (get_or row (in_turn back machines t) d) ≡ next_row times values t
  pub latest : (values : ℕ → ℕ) → AreValues number given machines back values
      → number x ≡ value_before (next_row times values) turn
  pub short : number x ≤ (MOST_JOBS + MOST_MACHINES + turn) * LONGEST_TIME

module _ {X : Type 0} {number : X → ℕ} {machines : ℕ} {times : ℕ → ℕ} {back : Bool} {given row : List X} where
  -- one more length
  pub fill : {turn at : ℕ} {x over y : X} → Filled number machines times back given row turn x
      → turn < machines → length row ≡ machines → at ≡ in_turn back machines turn → over ≡ get_or given at over
      → number y ≡ max (number over) (number x) + times turn → times turn ≤ LONGEST_TIME
      → AreShort number given machines back → Filled number machines times back given (set row at y) (turn + 1) y
  fill {turn} {at} {x} {over} {y} so_far lt long at_is over_is value small short =
      record { filled = filled; latest = latest; short = bounded }
    where
      read : over ≡ get_or given (in_turn back machines turn) over
      read = over_is ∙ ap (λ i. get_or given i over) at_is

      latest : (values : ℕ → ℕ) → AreValues number given machines back values
          → number y ≡ value_before (next_row times values) (turn + 1)
      latest values known =
          rw add-one (omega (
            arith,
            value,
            next_row_at times values turn,
            so_far.latest values known,
            ap number read,
            known turn over lt,
          ))

      filled : (values : ℕ → ℕ) → AreValues number given machines back values → (t : ℕ) (d : X) → t < turn + 1
          → number (get_or (set row at y) (in_turn back machines t) d) ≡ next_row times values t
      filled values known t d less =
          elim (cases_lt t turn) [
            | inl earlier ↦
                ap number (get_or-set_other row at (in_turn back machines t) y d
                (let apart = in_turn_apart back machines t turn earlier lt in omega arith))
                ∙ so_far.filled values known t d earlier
            | inr later ↦
                let e : t ≡ turn = omega arith in
                rw (e, ← at_is) (ap number (get_or-set_same row at y d (omega (arith, in_turn_lt back machines turn lt)))
                ∙ rw add-one at latest values known)
          ]

      bounded : number y ≤ (MOST_JOBS + MOST_MACHINES + (turn + 1)) * LONGEST_TIME
      bounded = omega (arith, value, so_far.short, small, short turn over lt, ap number read)
