use Rattle.std.proofs.Common.{arith, rules, codes, refl}
use Rattle.pfs_words.proofs.JobLemmas.{fails, layout_given, number_given, number_if_given, number_in_range, planned}
use Rattle.pfs_words.proofs.JobLemmas.{text_given}
use Rattle.pfs_words.proofs.planning.plan_solve.Goals as goal

pub number_in_if-requires : goal.number_in_if-requires
number_in_if-requires c = number_if_given c.in_ok-matches.ensures.ok c.in_ok-solve_command.ensures 3 refl refl refl

pub number_in-requires : goal.number_in-requires
number_in-requires c = number_given c.in_ok-matches.ensures.ok c.in_ok-solve_command.ensures 2 refl refl refl refl

pub number_in-requires-2 : goal.number_in-requires-2
number_in-requires-2 c = number_given c.in_ok-matches.ensures.ok c.in_ok-solve_command.ensures 4 refl refl refl refl

pub number_in-requires-3 : goal.number_in-requires-3
number_in-requires-3 c = number_given c.in_ok-matches.ensures.ok c.in_ok-solve_command.ensures 5 refl refl refl refl

pub layout_in-requires : goal.layout_in-requires
layout_in-requires c = layout_given c.in_ok-matches.ensures.ok c.in_ok-solve_command.ensures 0 refl refl (search rules)

pub number_in-requires-4 : goal.number_in-requires-4
number_in-requires-4 c = number_given c.in_ok-matches.ensures.ok c.in_ok-solve_command.ensures 1 refl refl refl refl

pub path_in-requires : goal.path_in-requires
path_in-requires c = text_given c.in_ok-matches.ensures.ok c.in_ok-solve_command.ensures 7 refl refl refl

pub overflow_cast-options : goal.overflow_cast-options
overflow_cast-options c =
    let within = number_in_range c.in_ok-matches.ensures.ok c.in_ok-solve_command.ensures 2 refl refl refl
    c.number_in.ensures in
    omega (arith, within.1)

pub overflow_cast-options-2 : goal.overflow_cast-options-2
overflow_cast-options-2 c =
    let within = number_in_range c.in_ok-matches.ensures.ok c.in_ok-solve_command.ensures 5 refl refl refl
    c.number_in-3.ensures in
    omega (arith, within.1)

pub returns-in_err-matches : goal.returns-in_err-matches
returns-in_err-matches c =
    let failed = c.in_err-matches.ensures in
    fails c.as_slice.result (codes "solve") _ (search rules) c.from_residual-in_err-matches.result (search rules) refl
    c.in_ok-solve_command.ensures refl refl failed.usage failed.fault

pub returns : goal.returns
returns c =
    let is = c.in_ok-solve_command.ensures in
    let parse = c.in_ok-matches.ensures.ok in
    planned parse is c.as_slice.result (codes "solve") (search rules) refl refl _ refl (search rules) (
      number_in_range parse is 1 refl refl refl c.number_in-4.ensures,
      (
        (number_in_range parse is 2 refl refl refl c.number_in.ensures).1,
        number_in_range parse is 3 refl refl refl c.number_in_if.ensures,
        (number_in_range parse is 5 refl refl refl c.number_in-3.ensures).1,
      ),
    )
