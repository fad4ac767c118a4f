use Rattle.std.proofs.Common.{subst, ◌∙◌, rules, w32}
use Rattle.std.proofs.lemmas.Int.{to_z-of_z}
use Rattle.std.specs.Int.RustNames.{FitsSigned}
use Rattle.pfs_base.specs.FlowShop.{FlowShop}
use Rattle.pfs_c.specs.Building.{local_search_fault}
use Rattle.pfs_c.specs.Iterating.{or_ties_fault}
use Rattle.pfs_c.specs.Private.Outcomes.{Validates}
use Rattle.pfs_c.proofs.Returning.{returned}
use Rattle.pfs_c.proofs.ties.pfs_local_search_ties.Goals as goal

pub returns-clause-number : goal.returns-clause-number
returns-clause-number c =
    let fits : FitsSigned w32 c.number_and_span.result = search rules in
    let done = c.improve_by-done in
    let validated = subst (λ (s : FlowShop). Validates done.result (or_ties_fault
    (local_search_fault s c.args.sequence.now c.args.list.now c.args.passes) c.args.ties))
    c.deref_mut.ensures.value done.ensures.validated in
    rw c.in-Some.ensures.taken (to_z-of_z w32 c.number_and_span.result fits ∙ returned _ done.result _
    c.number_and_span.result validated c.number_and_span.ensures.ok c.number_and_span.ensures.err)
