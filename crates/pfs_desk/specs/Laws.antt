-- The law of what `solve` and `check` print.
use Rattle.std.specs.Prelude.{◌≡◌, ℕ, ◌≤◌, ◌↔◌, false, List, Some}
use Rattle.pfs_layout.specs.declared.layout.Layout.{Layout}
use Rattle.pfs_words.specs.declared.solve_options.SolveOptions.{SolveOptions}
use Rattle.pfs_audit.specs.Bound.{bound_of}
use Rattle.pfs_desk.specs.declared.fault.Outcome.{Outcome}
use Rattle.pfs_desk.specs.declared.fault.Outcome.TheVariants.{Done}
use Rattle.pfs_desk.specs.Engine.{CheckOutput, SolveOutput}
use Rattle.pfs_desk.specs.OutputText.{valid_text}

-- what `solve` prints for an instance file, without `--cells`, is an order file, and the only output of `check` for both
-- is that the order is valid and has the same makespan
abbrev pub SolvedIsValid : Type 0
SolvedIsValid = (layout : Layout) (file : List ℕ) (block : ℕ) (options : SolveOptions) (text : List ℕ) → 1 ≤ block
    → options.cells ≡ false → (solved : SolveOutput layout (Some file) block options Done text)
    → (outcome : Outcome) (report : List ℕ) → CheckOutput layout (Some file) block (Some text) outcome report
    ↔ (outcome ≡ Done) × (report ≡ valid_text solved.solution.span (bound_of solved.problem.shop))
