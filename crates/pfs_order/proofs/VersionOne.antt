-- The order files of version 1 are those that state no machines.
use Rattle.std.proofs.Common.{◌≡◌, ℕ, ◌+◌, List, ◌++◌, length, map, codes, None, sym, ◌∙◌, refl, arith}
use Rattle.std.specs.Prelude.{◌↔◌}
use Rattle.std.proofs.lemmas.List.{length-map}
use Rattle.pfs_base.specs.Text.{named_number}
use Rattle.pfs_order.specs.OrderText.{file_text}
use Rattle.pfs_order.specs.OrderFile.{IsOrderFile}
use Rattle.pfs_order.specs.VersionOne.{IsVersionOne}
use Rattle.pfs_order.proofs.FileLines.{jobs_line, makespan_line, order_lines}
use Rattle.pfs_order.proofs.Published.OrderVerdicts.{written_file}

-- the lines of version 1 are those of the text without machines
version_one_lines : (order : List ℕ) (makespan : ℕ)
    → named_number (codes "order") (length order) ++ jobs_line order ++ makespan_line makespan
    ≡ file_text order None makespan
version_one_lines order makespan = order_lines order (length order) None makespan refl

pub version_one_is_read : (input order : List ℕ) (makespan : ℕ) → IsVersionOne input order makespan
    ↔ IsOrderFile input (record { order = order; machines = None; makespan = makespan })
version_one_is_read input order makespan = (
  λ h.
      let text = h.spelled ∙ version_one_lines order makespan in
      rw text (written_file order None makespan h.size h.is_order tt h.short_makespan),
  λ h.
      let some = h.has_text.some_job in
      let few = h.has_text.few_jobs in
      let size : length (map (λ job. job + 1) order) ≡ length order = length-map order (λ (job : ℕ). job + 1) in
      record {
        size = record { some = omega arith; few = omega arith };
        is_order = h.is_order;
        short_makespan = h.has_text.short_makespan;
        spelled = h.has_text.spelled ∙ sym (version_one_lines order makespan);
      },
)
