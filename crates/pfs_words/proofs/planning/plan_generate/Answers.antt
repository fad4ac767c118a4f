use Rattle.std.proofs.Common.{rules, codes, refl}
use Rattle.pfs_words.proofs.JobLemmas.{fails, number_in_range, planned, some_names, number_given}
use Rattle.pfs_words.proofs.planning.plan_generate.Goals as goal

pub number_in-requires : goal.number_in-requires
number_in-requires c = number_given c.in_ok-matches.ensures.ok c.in_ok-generate_command.ensures 0 refl refl refl refl

pub number_in-requires-2 : goal.number_in-requires-2
number_in-requires-2 c = number_given c.in_ok-matches.ensures.ok c.in_ok-generate_command.ensures 1 refl refl refl refl

pub number_in-requires-3 : goal.number_in-requires-3
number_in-requires-3 c = number_given c.in_ok-matches.ensures.ok c.in_ok-generate_command.ensures 2 refl refl refl refl

pub returns-in_err-matches : goal.returns-in_err-matches
returns-in_err-matches c =
    let failed = c.in_err-matches.ensures in
    fails some_names (codes "generate") _ refl c.from_residual-in_err-matches.result (search rules) refl
    c.in_ok-generate_command.ensures refl refl failed.usage failed.fault

pub returns : goal.returns
returns c =
    let is = c.in_ok-generate_command.ensures in
    let parse = c.in_ok-matches.ensures.ok in
    planned parse is some_names (codes "generate") refl refl refl _ refl (search rules) (
      number_in_range parse is 0 refl refl refl c.number_in.ensures,
      number_in_range parse is 1 refl refl refl c.number_in-2.ensures,
    )
