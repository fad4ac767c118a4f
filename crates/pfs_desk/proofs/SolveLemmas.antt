-- The text of `solve`, which is printed in parts.
use Rattle.std.proofs.Common.{◌≡◌, ℕ, ◌+◌, ◌<◌, ◌≤◌, ◌^◌, Bool, true, false, List, ◌++◌, Option, Some, length, map}
use Rattle.std.proofs.Common.{codes}
use Rattle.std.proofs.lemmas.List.{append-nil}
use Rattle.pfs_base.specs.declared.limits.TheConstants.{LONGEST_ORDER_FILE, MOST_MACHINES}
use Rattle.pfs_base.specs.Limits.{limits}
use Rattle.pfs_base.specs.Sends.{SendsFront}
use Rattle.pfs_base.specs.Text.{named_number}
use Rattle.pfs_base.proofs.Published.SendsLemmas.{front_of}
use Rattle.pfs_order.specs.OrderText.{file_text}
use Rattle.pfs_order.specs.Sequence.{IsSequence, IsSize}
use Rattle.pfs_order.proofs.Published.OrderVerdicts.{text_fits, written_file}
use Rattle.pfs_desk.specs.Solve.{solution_text}

pub file_short : (order : List ℕ) (machines span : ℕ) → IsSize limits (length order) → IsSequence (length order) order
    → 1 ≤ machines → machines ≤ MOST_MACHINES → span < 10 ^ 18
    → length (file_text order (Some machines) span) ≤ LONGEST_ORDER_FILE
file_short order machines span size distinct some few short =
    let written = written_file order (Some machines) span size distinct (some, few) short in
    text_fits (file_text order (Some machines) span)
    (map (λ job. job + 1) order, (Some machines, (span, written.has_text)))

pub solution_counted : (order : List ℕ) (machines span : ℕ) (with_cells : Bool) (cells : ℕ) → with_cells ≡ true
    → solution_text order machines span with_cells cells
    ≡ file_text order (Some machines) span ++ named_number (codes "cells") cells
unfolding solution_text
solution_counted order machines span with_cells cells e = rw e

pub solution_alone : (order : List ℕ) (machines span : ℕ) (with_cells : Bool) (cells : ℕ) → with_cells ≡ false
    → solution_text order machines span with_cells cells ≡ file_text order (Some machines) span
unfolding solution_text
solution_alone order machines span with_cells cells e = rw e (append-nil (file_text order (Some machines) span))

pub solution_front : {a b : Option (List ℕ)} {failed : Bool} {sent reached : ℕ} (order : List ℕ) (machines span : ℕ)
    (with_cells : Bool) (cells : ℕ) → SendsFront a b failed sent (file_text order (Some machines) span) reached
    → SendsFront a b failed sent (solution_text order machines span with_cells cells) reached
unfolding solution_text
solution_front order machines span with_cells cells front = front_of _ front
