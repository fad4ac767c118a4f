-- The first fault in the arguments of `pfs_iterate`.
use Rattle.std.specs.Prelude.{ℕ, List, [], ◌∷◌, length, nat_eq, nat_le, take, Option}
use Rattle.std.specs.Cmp.Lexicographic.{pointwise}
use Rattle.pfs_base.specs.FlowShop.{FlowShop}
use Rattle.pfs_base.specs.Lists.{first_some}
use Rattle.pfs_iterate.specs.Iterated.{movable}
use Rattle.pfs_iterate.specs.declared.options.TheConstants.{MOST_TIES}
use Rattle.pfs_c.specs.declared.iterating.IterateOptions.{IterateOptions}
use Rattle.pfs_c.specs.declared.numbers.CallFault.{CallFault}
use Rattle.pfs_c.specs.declared.numbers.CallFault.TheVariants.{Held, Ties}
use Rattle.pfs_c.specs.Searching.{count_fault, passes_fault, take_fault}
use Rattle.pfs_c.specs.Validation.{unless, length_fault, jobs_fault}

-- the best order begins with the held jobs of the current one
abbrev pub held_fault : ℕ → List ℕ → List ℕ → Option CallFault
held_fault held current best = unless (pointwise nat_eq (take held best) (take held current)) Held

-- `ties` is the number of a rule
abbrev pub ties_fault : ℕ → Option CallFault
ties_fault ties = unless (nat_le ties MOST_TIES) Ties

-- the first fault of other arguments, and then that of `ties`
abbrev pub or_ties_fault : Option CallFault → ℕ → Option CallFault
or_ties_fault fault ties = first_some (fault ∷ ties_fault ties ∷ [])

abbrev pub iterate_fault : FlowShop → List ℕ → List ℕ → IterateOptions → Option CallFault
iterate_fault shop current best options =
    let rounds = options.rounds in
    first_some (length_fault (length current) shop.jobs ∷ length_fault (length best) shop.jobs
    ∷ jobs_fault shop.jobs current ∷ jobs_fault shop.jobs best
    ∷ take_fault rounds.take (length (movable rounds.held options.stay.now current)) ∷ held_fault rounds.held current best
    ∷ passes_fault rounds.partial ∷ passes_fault rounds.passes ∷ ties_fault rounds.ties
    ∷ count_fault rounds.first rounds.count ∷ [])
