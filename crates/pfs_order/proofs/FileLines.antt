-- The three lines of an order file.
use Rattle.std.proofs.Common.{◌≡◌, ℕ, ◌+◌, ◌<◌, ◌≤◌, ◌^◌, List, ◌++◌, length, map, codes, sym, ◌∙◌, ap, arith}
use Rattle.std.proofs.Common.{length-append, Option}
use Rattle.std.proofs.lemmas.List.{length-map}
use Rattle.pfs_base.specs.declared.limits.TheConstants.{LONGEST_ORDER_FILE}
use Rattle.pfs_base.specs.Limits.{limits}
use Rattle.pfs_base.specs.Text.{spaced, with_line_end, named_number}
use Rattle.pfs_order.specs.OrderFile.{IsText}
use Rattle.pfs_order.specs.OrderText.{first_line, order_text, file_text}
use Rattle.pfs_order.specs.Sequence.{IsSequence, IsSize, AreMachines}
use Rattle.pfs_order.proofs.Published.OrderVerdicts.{text_fits, written_file}

abbrev pub jobs_line : List ℕ → List ℕ
jobs_line order = with_line_end (spaced (map (λ job. job + 1) order))

abbrev pub makespan_line : ℕ → List ℕ
makespan_line makespan = named_number (codes "makespan") makespan

-- the lines, joined, are the text of the file
pub order_lines : (order : List ℕ) (count : ℕ) (machines : Option ℕ) (makespan : ℕ) → count ≡ length order
    → (first_line count machines ++ jobs_line order) ++ makespan_line makespan ≡ file_text order machines makespan
unfolding order_text
order_lines order count machines makespan e =
    ap (λ n. (first_line n machines ++ jobs_line order) ++ makespan_line makespan)
    (e ∙ sym (length-map order (λ job. job + 1)))

-- together the lines are no longer than an order file may be
pub lines_fit : (order : List ℕ) (count : ℕ) (machines : Option ℕ) (makespan : ℕ) → count ≡ length order
    → IsSize limits (length order) → IsSequence (length order) order → AreMachines machines → makespan < 10 ^ 18
    → length (first_line count machines) + length (jobs_line order) + length (makespan_line makespan)
    ≤ LONGEST_ORDER_FILE
lines_fit order count machines makespan e size sequence stated short =
    let written = written_file order machines makespan size sequence stated short in
    let is_text : IsText (file_text order machines makespan) = (_, (machines, (makespan, written.has_text))) in
    let fits = text_fits (file_text order machines makespan) is_text in
    let lines = ap length (order_lines order count machines makespan e) in
    grind (arith, length-append)
