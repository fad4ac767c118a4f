-- The tables of an insertion are as the recurrences say, and the sums of all machines are the makespans.
use Rattle.std.proofs.Common.{ℕ, zero, suc, ◌≡◌, ◌+◌, ◌*◌, ◌<◌, ◌≤◌, List, length, insert, refl, arith}
use Rattle.std.proofs.Common.{inl, inr, max}
use Rattle.std.proofs.Math.Nat.{mul-le-mul_right}
use Rattle.std.proofs.lemmas.Bool.{cases_lt}
use Rattle.pfs_base.specs.FlowShop.{FlowShop, time_of}
use Rattle.pfs_base.specs.Paths.{operation}
use Rattle.pfs_base.proofs.Published.Heads.{head}
use Rattle.pfs_base.proofs.Published.Heaviest.{greatest_to}
use Rattle.pfs_insert.specs.Exchange.{heaviest_back}
use Rattle.pfs_insert.specs.Insertion.{makespan_with}
use Rattle.pfs_wave.specs.Private.Blocks.{Cells}
use Rattle.pfs_wave.specs.Private.Recurrences.{AreTables, AreTails, TablesOfCells}
use Rattle.pfs_wave.specs.Private.Padded.{machine_at, on_machine, padded_time}
use Rattle.pfs_wave.proofs.PaddedTables.{on_padding, padded_back, padded_back_step, padded_none, padded_head}
use Rattle.pfs_wave.proofs.PaddedTables.{padded_head_first, padded_head_step, padded_inserted_first}
use Rattle.pfs_wave.proofs.PaddedTables.{padded_inserted_step, padded_sum_first, padded_sum_step, padded_sum_last}

module _ (shop : FlowShop) (jobs : List ℕ) where
  pub true_tails : (count : ℕ) → shop.machines ≤ 8 * count
      → AreTails count (padded_time shop jobs) (padded_back shop jobs)
  true_tails count few = record {
    none = λ row. on_padding shop (heaviest_back shop jobs row) (8 * count) few;
    next = λ row machine inside. padded_back_step shop jobs row machine;
  }

  -- no lane has a tail of the sequence after the last step
  pub no_tail : (count lanes steps row lane k : ℕ) → shop.machines ≤ lanes * count → length jobs + lanes ≡ steps
      → row + lane ≡ steps → padded_back shop jobs row (lane * count + k) ≡ 0
  no_tail count lanes steps row lane k few all is =
      elim (cases_lt row (length jobs)) [
        | inl before ↦
            let more : lanes * count ≤ lane * count = mul-le-mul_right count (omega arith) in
            on_padding shop (heaviest_back shop jobs row) (lane * count + k) (omega arith)
        | inr after ↦ padded_none shop jobs row (lane * count + k) after
      ]

  module _ (some : 1 ≤ shop.machines) (job : ℕ) where
    -- by a number of machines
    abbrev head_cell : Cells
    head_cell place zero = 0
    head_cell place (suc machine) = padded_head shop some jobs place machine

    abbrev inserted_cell : Cells
    inserted_cell place zero = 0
    inserted_cell place (suc machine) = head (operation shop (insert jobs place job)) (suc place) (machine_at shop machine)

    abbrev sum_cell : Cells
    sum_cell place zero = 0
    sum_cell place (suc machine) =
        greatest_to (λ m. head (operation shop (insert jobs place job)) (suc place) m + heaviest_back shop jobs place m)
        (machine_at shop machine)

    abbrev job_time : ℕ → ℕ
    job_time = on_machine shop (time_of shop job)

    abbrev pub true_cells : TablesOfCells
    true_cells = record {
      time = padded_time shop jobs;
      tail = padded_back shop jobs;
      head = head_cell;
      inserted = inserted_cell;
      sum = sum_cell;
      job = job_time;
    }

    first_head : (machines : ℕ) → head_cell 0 machines ≡ 0
    first_head zero = refl
    first_head (suc machine) = refl

    next_head : (row machine : ℕ) → row < length jobs → head_cell (suc row) (suc machine)
        ≡ max (head_cell (suc row) machine) (head_cell row (suc machine)) + padded_time shop jobs row machine
    next_head row zero lt = let here = padded_head_first shop some jobs row lt in omega (arith, here)
    next_head row (suc machine) lt = padded_head_step shop some jobs row machine lt

    next_inserted : (place machine : ℕ) → place ≤ length jobs → inserted_cell place (suc machine)
        ≡ max (inserted_cell place machine) (head_cell place (suc machine)) + job_time machine
    next_inserted place zero le = let here = padded_inserted_first shop some jobs job place le in omega (arith, here)
    next_inserted place (suc machine) le = padded_inserted_step shop some jobs job place le machine

    next_sum : (place machine : ℕ) → place ≤ length jobs → sum_cell place (suc machine)
        ≡ max (sum_cell place machine) (inserted_cell place (suc machine) + padded_back shop jobs place machine)
    next_sum place zero le = let here = padded_sum_first shop some jobs job place le in omega (arith, here)
    next_sum place (suc machine) le = padded_sum_step shop some jobs job place le machine

    pub true_tables : AreTables (length jobs) true_cells
    true_tables = record {
      first_head = first_head;
      no_head = λ place. refl;
      next_head = next_head;
      no_inserted = λ place. refl;
      next_inserted = next_inserted;
      no_sum = λ place. refl;
      next_sum = next_sum;
    }

    pub whole_sum : (place machines : ℕ) → place ≤ length jobs → 1 ≤ machines → shop.machines ≤ machines
        → sum_cell place machines ≡ makespan_with shop jobs job place
    whole_sum place zero le any few = absurd (omega arith)
    whole_sum place (suc machine) le any few = padded_sum_last shop some jobs job place le machine few
