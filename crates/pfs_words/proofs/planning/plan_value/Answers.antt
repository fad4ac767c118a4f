use Rattle.std.proofs.Common.{rules, codes, refl}
use Rattle.pfs_words.proofs.JobLemmas.{fails, layout_given, number_in_range, planned, number_given, text_given}
use Rattle.pfs_words.proofs.planning.plan_value.Goals as goal

pub layout_in-requires : goal.layout_in-requires
layout_in-requires c = layout_given c.in_ok-matches.ensures.ok c.in_ok-file_command.ensures 0 refl refl (search rules)

pub number_in-requires : goal.number_in-requires
number_in-requires c = number_given c.in_ok-matches.ensures.ok c.in_ok-file_command.ensures 1 refl refl refl refl

pub path_in-requires : goal.path_in-requires
path_in-requires c = text_given c.in_ok-matches.ensures.ok c.in_ok-file_command.ensures 2 refl refl refl

pub returns-in_err-matches : goal.returns-in_err-matches
returns-in_err-matches c =
    let failed = c.in_err-matches.ensures in
    fails c.as_slice.result (codes "value") _ (search rules) c.from_residual-in_err-matches.result (search rules) refl
    c.in_ok-file_command.ensures refl refl failed.usage failed.fault

pub returns : goal.returns
returns c =
    let is = c.in_ok-file_command.ensures in
    let parse = c.in_ok-matches.ensures.ok in
    planned parse is c.as_slice.result (codes "value") (search rules) refl refl _ refl (search rules)
    (number_in_range parse is 1 refl refl refl c.number_in.ensures)
