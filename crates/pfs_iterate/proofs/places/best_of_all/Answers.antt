use Rattle.std.proofs.Common.{◌≡◌, ℕ, ◌<◌, ◌∙◌, drop, get_or, length, rules, subst, take}
use Rattle.std.proofs.lemmas.List.{get_or_append_left}
use Rattle.pfs_base.specs.FlowShop.{FlowShop}
use Rattle.pfs_insert.specs.Inserter.{IsBestPlace}
use Rattle.pfs_insert.specs.Insertion.{makespan_with}
use Rattle.pfs_search.specs.Search.{IsSearchOf}
use Rattle.pfs_iterate.proofs.places.best_of_all.Goals as goal

pub returns-clause-best : goal.returns-clause-best
returns-clause-best c =
    let shop = c.args.instance.now.shop in
    let jobs = c.args.seq.now.jobs in
    let job = c.args.job in
    let best = c.best-best in
    let is : IsBestPlace shop jobs job best.result.place best.result.span =
    subst (λ (s : FlowShop). IsBestPlace s jobs job best.result.place best.result.span) c.metered-bench.ensures.shop
    (rw c.as_slice.ensures.value at best.ensures.best) in
    rw is.place_is (c.best_place.ensures shop jobs job)

pub returns-clause-spans : goal.returns-clause-spans
returns-clause-spans c place among within =
    let written = c.best-best.new.spans in
    let is = subst (λ (s : FlowShop). (place : ℕ) → place < length (take c.min-count.result c.args.spans.now)
    → get_or written place 0 ≡ makespan_with s c.args.seq.now.jobs c.args.job place)
    c.metered-bench.ensures.shop (rw c.as_slice.ensures.value at c.best-best.ensures.spans) in
    get_or_append_left written (drop c.min-count.result c.args.spans.now) 0 place (search rules) ∙ is place (search rules)

pub returns-clause-search : goal.returns-clause-search
returns-clause-search c = record {
  still = subst (λ (s : FlowShop). IsSearchOf s c.best-best.new.self) c.metered-bench.ensures.shop c.best-best.ensures.still;
  kept = c.best-best.ensures.kept;
  cells = c.best-best.ensures.cells;
}
