use Rattle.std.proofs.Common.{◌≡◌, ℕ, false, List, Some, length, refl, sym, ap, ◌∙◌, arith}
use Rattle.std.proofs.lemmas.Bool.{eq-eqb}
use Rattle.pfs_base.specs.FlowShop.{FlowShop, IsWithin}
use Rattle.pfs_base.specs.Limits.{limits}
use Rattle.pfs_base.specs.Paths.{makespan}
use Rattle.pfs_base.proofs.Published.Heads.{none_longer}
use Rattle.pfs_order.specs.OrderFile.{IsOrderFile}
use Rattle.pfs_order.specs.Sequence.{StatedOrder}
use Rattle.pfs_order.proofs.Published.OrderVerdicts.{one_file, written_file}
use Rattle.pfs_audit.specs.Bound.{bound_of}
use Rattle.pfs_audit.specs.Verdicts.{verdict_on}
use Rattle.pfs_audit.specs.declared.verdicts.Verdict.TheVariants.{Valid}
use Rattle.pfs_words.specs.declared.solve_options.SolveOptions.{SolveOptions}
use Rattle.pfs_desk.specs.Laws.{SolvedIsValid}
use Rattle.pfs_desk.specs.Solve.{IsSolution}
use Rattle.pfs_desk.specs.OutputText.{outcome_of, verdict_text}
use Rattle.pfs_desk.proofs.HeadlineLemmas.{one_problem}
use Rattle.pfs_desk.proofs.SolveLemmas.{solution_alone}
use Rattle.pfs_desk.proofs.laws.solved_is_valid.Goals as goal

module _ (shop : FlowShop) (within : IsWithin limits shop) (options : SolveOptions) (text : List ℕ)
    (solution : IsSolution shop options text) where
  -- what the text states
  abbrev stated : StatedOrder
  stated = record { order = solution.order; machines = Some shop.machines; makespan = solution.span }

  is_file : options.cells ≡ false → IsOrderFile text stated
  is_file none =
      let all = solution.found.all in
      let sizes = within.sizes in
      let small = none_longer shop solution.order within (omega arith) in
      rw (solution.spelled ∙ solution_alone solution.order shop.machines solution.span options.cells solution.cells none)
      (written_file solution.order (Some shop.machines) solution.span
      (rw all (record { some = sizes.some_job; few = sizes.few_jobs })) (rw all solution.found.distinct)
      (sizes.some_machine, sizes.few_machines) (omega (arith, solution.found.spanned)))

  is_valid : verdict_on shop stated ≡ Valid solution.span (bound_of shop)
  is_valid =
      rw (
        eq-eqb (length solution.order) shop.jobs solution.found.all,
        eq-eqb shop.machines shop.machines refl,
        eq-eqb solution.span (makespan shop solution.order) solution.found.spanned,
      ) refl

solved_is_valid : SolvedIsValid
solved_is_valid layout file block options text some none solved outcome report =
    let shop = solved.problem.shop in
    let within = solved.holds.blocks.is_own.within.within in
    let file_is = is_file shop within options text solved.solution none in
    let valid = is_valid shop within options text solved.solution in (
      λ checked.
          let problem = one_problem layout file block some checked.problem solved.problem checked.holds solved.holds in
          let states = one_file text checked.stated (stated shop within options text solved.solution) checked.states
          file_is in
          let verdict : verdict_on checked.problem.shop checked.stated
          ≡ Valid solved.solution.span (bound_of shop) = rw (problem, states) valid in
          (checked.checked ∙ ap outcome_of verdict, checked.spelled ∙ ap verdict_text verdict),
      λ is. record {
        problem = solved.problem;
        stated = stated shop within options text solved.solution;
        holds = solved.holds;
        states = file_is;
        checked = is.0 ∙ sym (ap outcome_of valid);
        spelled = is.1 ∙ sym (ap verdict_text valid);
      },
    )

pub returns : goal.returns
returns c = solved_is_valid
