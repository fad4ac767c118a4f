-- The texts of `check` and `table`, which are printed in parts.
use Rattle.std.proofs.Common.{◌≡◌, ◌≢◌, ℕ, Bool, List, ◌++◌, Option, Some, length, codes, refl, sym, ◌∙◌}
use Rattle.std.proofs.lemmas.Bool.{eq-eqb, ne_eqb}
use Rattle.std.proofs.lemmas.List.{append-nil}
use Rattle.pfs_base.specs.Text.{with_line_end}
use Rattle.pfs_base.specs.Sends.{SendsFront}
use Rattle.pfs_base.proofs.Published.SendsLemmas.{front_of}
use Rattle.pfs_base.specs.FlowShop.{FlowShop}
use Rattle.pfs_order.specs.Sequence.{StatedOrder}
use Rattle.pfs_audit.specs.Schedule.{Timing}
use Rattle.pfs_audit.specs.Verdicts.{SizesMatch}
use Rattle.pfs_desk.specs.declared.fault.Outcome.TheVariants.{Done, CheckFailed}
use Rattle.pfs_desk.specs.OutputText.{finding, valid_text, wrong_size_text, wrong_machines_text, table_text}
use Rattle.pfs_desk.specs.OutputText.{IsLeastTable, TablePrints}

-- the first three lines of a valid order
abbrev pub valid_lines : ℕ → ℕ → List ℕ
valid_lines makespan bound = finding (codes "valid") (codes "makespan") makespan (codes "bound") bound

pub valid_optimal : (makespan bound : ℕ) → makespan ≡ bound
    → valid_text makespan bound ≡ valid_lines makespan bound ++ with_line_end (codes "optimal")
unfolding valid_text
valid_optimal makespan bound e = rw (eq-eqb makespan bound e)

pub valid_alone : (makespan bound : ℕ) → makespan ≢ bound → valid_text makespan bound ≡ valid_lines makespan bound
unfolding valid_text
valid_alone makespan bound e = rw (ne_eqb makespan bound e) (append-nil (valid_lines makespan bound))

pub valid_front : {a b : Option (List ℕ)} {failed : Bool} {sent reached : ℕ} (makespan bound : ℕ)
    → SendsFront a b failed sent (valid_lines makespan bound) reached
    → SendsFront a b failed sent (valid_text makespan bound) reached
unfolding valid_text
valid_front makespan bound front = front_of _ front

-- what `table` prints for an order of a wrong size
pub wrong_size_prints : (shop : FlowShop) (file : StatedOrder) (size jobs : ℕ) → size ≡ length file.order
    → jobs ≡ shop.jobs → size ≢ jobs → TablePrints shop file CheckFailed (wrong_size_text size jobs)
wrong_size_prints shop file size jobs e f wrong = record {
  fits = λ fits. absurd (wrong (e ∙ fits.jobs ∙ sym f));
  wrong_size = λ other. (refl, rw (e, f));
  wrong_machines = λ same stated is other. absurd (wrong (e ∙ same ∙ sym f));
}

-- what it prints for an order file that states a wrong number of machines
pub wrong_machines_prints : (shop : FlowShop) (file : StatedOrder) (stated machines : ℕ) → length file.order ≡ shop.jobs
    → file.machines ≡ Some stated → machines ≡ shop.machines → stated ≢ machines
    → TablePrints shop file CheckFailed (wrong_machines_text stated machines)
wrong_machines_prints shop file stated machines size is e wrong = record {
  fits = λ fits. let same : stated ≡ shop.machines = rw is at fits.machines in absurd (wrong (same ∙ sym e));
  wrong_size = λ other. absurd (other size);
  wrong_machines = λ same other is_other not. let one : stated ≡ other = cc in (refl, rw (one, e));
}

pub least_of : (shop : FlowShop) (order other : List ℕ) (timing : Timing) → order ≡ other
    → IsLeastTable shop order timing → IsLeastTable shop other timing
least_of shop order other timing e least = rw e at least

-- what it prints for an order that fits
pub fitting_prints : (shop : FlowShop) (file : StatedOrder) (timing : Timing) → SizesMatch shop file
    → IsLeastTable shop file.order timing → TablePrints shop file Done (table_text timing)
fitting_prints shop file timing fits least = record {
  fits = λ same. (refl, (timing, least, refl));
  wrong_size = λ other. absurd (other fits.jobs);
  wrong_machines = λ same stated is other. absurd (other (rw is at fits.machines));
}
