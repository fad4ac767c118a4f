-- The ends of a row are heads, up to 65,535.
use Rattle.std.proofs.Common.{◌≡◌, ℕ, zero, suc, ◌+◌, ◌-◌, ◌*◌, ◌<◌, ◌≤◌, max, List, length, get_or, drop, refl}
use Rattle.std.proofs.Common.{ap, sym, ◌∙◌, add-one, arith}
use Rattle.std.proofs.lemmas.List.{get_or-take, get_or-drop, length-drop, length-take-le}
use Rattle.pfs_base.specs.FlowShop.{FlowShop}
use Rattle.pfs_base.specs.Paths.{operation, makespan}
use Rattle.pfs_base.proofs.Published.Heads.{head, head_step, makespan_is}
use Rattle.pfs_batch.specs.Private.Lanes.{capped}
use Rattle.pfs_batch.specs.Private.Ends.{cell, sequence_from, IsNextRow}

capped_step : (a b t x y z w : ℕ) → x ≡ capped a → y ≡ capped b → z ≡ t → w ≡ max a b + t
    → capped (max x y + z) ≡ capped w
capped_step a b t x y z w p q r s = omega arith

module _ (weigh : ℕ → ℕ → ℕ) (lane : ℕ) where
  abbrev pub AreHeads : ℕ → ℕ → List (List ℕ) → Type 0
  AreHeads machines row ends =
      (machine : ℕ) → machine < machines → cell ends machine lane ≡ capped (head weigh row machine)

  pub next_heads : (machines row : ℕ) (old : List (List ℕ)) (time : ℕ → ℕ → ℕ) (new : List (List ℕ)) → lane < 8 → AreHeads machines row old
      → ((machine : ℕ) → machine < machines → time machine lane ≡ weigh row machine)
      → IsNextRow machines old time new → AreHeads machines (row + 1) new
  next_heads machines row old time new lt heads is next machine inside =
      go machine inside ∙ ap (λ r. capped (head weigh r machine)) (sym (add-one row))
    where
      go : (machine : ℕ) → machine < machines → cell new machine lane ≡ capped (head weigh (suc row) machine)
      go zero inside =
          next zero lane inside lt ∙ capped_step (head weigh row zero) 0 (weigh row zero) (cell old zero lane) 0
          (time zero lane) (head weigh (suc row) zero) (heads zero inside) refl (is zero inside)
          (head_step weigh row zero)
      go (suc machine) inside =
          next (suc machine) lane inside lt
          ∙ capped_step (head weigh row (suc machine)) (head weigh (suc row) machine) (weigh row (suc machine))
          (cell old (suc machine) lane) (cell new machine lane) (time (suc machine) lane)
          (head weigh (suc row) (suc machine)) (heads (suc machine) inside) (go machine (omega arith))
          (is (suc machine) inside) (head_step weigh row (suc machine))

module _ (shop : FlowShop) (rows sequences : List ℕ) (machines len first : ℕ) (same : shop.machines ≡ machines) where
  abbrev jobs : List ℕ
  jobs = sequence_from sequences len first

  -- the time of the job at a row of the sequence
  pub time_is : (row machine : ℕ) → ((at : ℕ) → get_or shop.times at 0 ≡ get_or rows at 0) → row < len
      → get_or rows (get_or sequences (first + row) 0 * machines + machine) 0 ≡ operation shop jobs row machine
  time_is row machine times lt =
      let job = get_or jobs row 0 in
      let is : job ≡ get_or sequences (first + row) 0 =
      get_or-take len (drop first sequences) row 0 lt ∙ get_or-drop first sequences row 0 in
      ap (λ j. get_or rows (j * machines + machine) 0) (sym is)
      ∙ ap (λ m. get_or rows (job * m + machine) 0) (sym same)
      ∙ sym (times (job * shop.machines + machine))

  -- the head of the last operation is the makespan
  pub span_is : first + len ≤ length sequences → head (operation shop jobs) len (machines - 1) ≡ makespan shop jobs
  span_is fits =
      let rest = length-drop first sequences in
      let long : length jobs ≡ len = length-take-le len (drop first sequences) (omega arith) in
      ap (λ m. head (operation shop jobs) len (m - 1)) (sym same)
      ∙ ap (λ r. head (operation shop jobs) r (shop.machines - 1)) (sym long) ∙ sym (makespan_is shop jobs)
