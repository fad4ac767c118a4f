-- Options of worked examples.
use Rattle.pfs_iterate.specs.declared.options.Options.{Options}
use Rattle.pfs_iterate.specs.declared.options.TheConstants.{TIES_FIRST}

-- one job is removed, and one pass follows its insertion
abbrev pub one_and_pass : Options
one_and_pass =
    record { seed = 0; take = 1; held = 0; first = 0; count = 1; partial = 0; passes = 1; ties = TIES_FIRST }

-- three jobs are removed, without a pass
abbrev pub three_alone : Options
three_alone =
    record { seed = 0; take = 3; held = 0; first = 0; count = 1; partial = 0; passes = 0; ties = TIES_FIRST }
