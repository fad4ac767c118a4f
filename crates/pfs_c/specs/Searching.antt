-- The first fault in the arguments of `pfs_rounds`.
use Rattle.std.specs.Prelude.{ℕ, ◌+◌, ◌&&◌, List, [], ◌∷◌, length, nat_le, Option}
use Rattle.pfs_base.specs.FlowShop.{FlowShop}
use Rattle.pfs_base.specs.Lists.{first_some}
use Rattle.pfs_base.specs.declared.limits.TheConstants.{MOST_PASSES, MOST_ROUNDS}
use Rattle.pfs_c.specs.declared.numbers.CallFault.{CallFault}
use Rattle.pfs_c.specs.declared.searching.RoundsOptions.{RoundsOptions}
use Rattle.pfs_c.specs.declared.numbers.CallFault.TheVariants.{Take, Passes, Rounds}
use Rattle.pfs_c.specs.Validation.{unless, length_fault, jobs_fault}

abbrev pub take_fault : ℕ → ℕ → Option CallFault
take_fault take jobs = unless (nat_le 1 take && nat_le take jobs) Take

abbrev pub passes_fault : ℕ → Option CallFault
passes_fault passes = unless (nat_le passes MOST_PASSES) Passes

abbrev pub count_fault : ℕ → ℕ → Option CallFault
count_fault first count = unless (nat_le (first + count) MOST_ROUNDS) Rounds

-- `start` is the order to start from
abbrev pub rounds_fault : FlowShop → List ℕ → RoundsOptions → Option CallFault
rounds_fault shop start options = first_some (length_fault (length start) shop.jobs ∷ jobs_fault shop.jobs start
    ∷ take_fault options.take shop.jobs ∷ passes_fault options.passes ∷ count_fault options.first options.count ∷ [])
