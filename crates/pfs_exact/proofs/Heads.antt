-- Heads of an order, row by row and machine by machine.
use Rattle.std.proofs.Common.{◌≡◌, ℕ, zero, suc, ◌+◌, ◌≤◌, List, [], ◌∷◌, ◌++◌, length}
use Rattle.std.proofs.Common.{sym, ap, ◌∙◌, arith}
use Rattle.std.proofs.Math.Nat.{add-zero, add-suc}
use Rattle.std.proofs.Math.Seq.{get_or-append_seam}
use Rattle.std.proofs.lemmas.List.{append_assoc, length-append}
use Rattle.std.proofs.lemmas.List.Sums.{sum_by-cons}
use Rattle.pfs_base.specs.FlowShop.{FlowShop, time_of}
use Rattle.pfs_base.specs.Paths.{operation}
use Rattle.pfs_base.specs.Heads.{head_of}
use Rattle.pfs_base.proofs.Published.HeadRows.{head_of-is}
use Rattle.pfs_base.proofs.Published.Heads.{head_step}
use Rattle.pfs_exact.specs.Private.Nodes.{times_on}

-- heads grow along their row
pub along : (shop : FlowShop) (jobs : List ℕ) (rows machine many : ℕ)
    → head_of shop jobs rows machine ≤ head_of shop jobs rows (machine + many)
along shop jobs rows machine zero = rw (add-zero machine) (omega arith)
along shop jobs zero machine (suc many) = omega arith
along shop jobs (suc row) machine (suc many) =
    let before = along shop jobs (suc row) machine many in
    let step = head_step (operation shop jobs) row (suc (machine + many)) in
    let one = head_of-is shop jobs (suc row) (machine + many) in
    let two = head_of-is shop jobs (suc row) (suc (machine + many)) in
    rw (add-suc machine many) (omega arith)

-- a head, and the time of the job of the next row on the same machine
pub down : (shop : FlowShop) (front : List ℕ) (job : ℕ) (rest : List ℕ) (machine : ℕ)
    → head_of shop (front ++ job ∷ rest) (length front) machine + time_of shop job machine
    ≤ head_of shop (front ++ job ∷ rest) (suc (length front)) machine
down shop front job rest machine =
    let order = front ++ job ∷ rest in
    let here = ap (λ j. time_of shop j machine) (get_or-append_seam front job rest 0) in
    let step = head_step (operation shop order) (length front) machine in
    let one = head_of-is shop order (length front) machine in
    let two = head_of-is shop order (suc (length front)) machine in
    omega arith

-- a head, and the time of its job on the next machine
pub on : (shop : FlowShop) (front : List ℕ) (job : ℕ) (rest : List ℕ) (machine : ℕ)
    → head_of shop (front ++ job ∷ rest) (suc (length front)) machine + time_of shop job (suc machine)
    ≤ head_of shop (front ++ job ∷ rest) (suc (length front)) (suc machine)
on shop front job rest machine =
    let order = front ++ job ∷ rest in
    let here = ap (λ j. time_of shop j (suc machine)) (get_or-append_seam front job rest 0) in
    let step = head_step (operation shop order) (length front) (suc machine) in
    let one = head_of-is shop order (suc (length front)) machine in
    let two = head_of-is shop order (suc (length front)) (suc machine) in
    omega arith

-- the first operation of a row ends no sooner than after its own time
pub first : (shop : FlowShop) (front : List ℕ) (job : ℕ) (rest : List ℕ) (machine : ℕ)
    → time_of shop job machine ≤ head_of shop (front ++ job ∷ rest) (suc (length front)) machine
first shop front job rest machine = let step = down shop front job rest machine in omega arith

-- the same for the job before the last ones
module _ (shop : FlowShop) (front middle : List ℕ) (job : ℕ) (back : List ℕ) (machine : ℕ) where
  parts : (front ++ middle) ++ job ∷ back ≡ front ++ ((middle ++ job ∷ []) ++ back)
  parts = append_assoc front middle (job ∷ back) ∙ ap (λ l. front ++ l) (sym (append_assoc middle (job ∷ []) back))

  pub down_last : head_of shop (front ++ ((middle ++ job ∷ []) ++ back)) (length front + length middle) machine
      + time_of shop job machine
      ≤ head_of shop (front ++ ((middle ++ job ∷ []) ++ back)) (suc (length front + length middle)) machine
  down_last = rw (parts, length-append front middle) at (down shop (front ++ middle) job back machine)

  pub on_last : head_of shop (front ++ ((middle ++ job ∷ []) ++ back)) (suc (length front + length middle)) machine
      + time_of shop job (suc machine)
      ≤ head_of shop (front ++ ((middle ++ job ∷ []) ++ back)) (suc (length front + length middle)) (suc machine)
  on_last = rw (parts, length-append front middle) at (on shop (front ++ middle) job back machine)

-- a head, and the times of the next jobs on the same machine
pub reach : (shop : FlowShop) (front middle back : List ℕ) (machine : ℕ)
    → head_of shop (front ++ (middle ++ back)) (length front) machine + times_on shop machine middle
    ≤ head_of shop (front ++ (middle ++ back)) (length front + length middle) machine
reach shop front [] back machine = rw (add-zero (length front)) (omega arith)
reach shop front (job ∷ middle) back machine =
    let e : (front ++ job ∷ []) ++ (middle ++ back) ≡ front ++ job ∷ (middle ++ back) =
    append_assoc front (job ∷ []) (middle ++ back) in
    let long : length (front ++ job ∷ []) ≡ suc (length front) = length-append front (job ∷ []) ∙ omega arith in
    let step = down shop front job (middle ++ back) machine in
    let rest = rw (e, long) at (reach shop (front ++ job ∷ []) middle back machine) in
    let more = sum_by-cons (λ j. time_of shop j machine) job middle in
    let rows : suc (length front) + length middle ≡ length front + length (job ∷ middle) = omega arith in
    let end = rw rows at rest in
    omega arith
