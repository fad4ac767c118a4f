use Rattle.std.proofs.Common.{◌≡◌, ◌≤◌, length, not, drop, refl, rules, arith}
use Rattle.std.proofs.lemmas.List.{length-drop}
use Rattle.std.proofs.lemmas.List.Filters.{length-filter_both}
use Rattle.pfs_iterate.specs.Iterated.{is_free, movable}
use Rattle.pfs_c.proofs.iterating.iterate_in.Goals as goal

pub iterate-requires-clause-options : goal.iterate-requires-clause-options
iterate-requires-clause-options c =
    let held = c.args.options.now.rounds.held in
    let stay = c.args.options.now.stay.now in
    let current = c.args.current.now in
    let all : length current ≡ c.args.kept.now.jobs = search rules in
    let within : held ≤ c.args.kept.now.jobs = search rules in
    let few : c.args.options.now.rounds.take ≤ length (movable held stay current) = search rules in
    record {
      some = search rules;
      few = omega (
        arith,
        all,
        within,
        few,
        length-drop held current,
        length-filter_both (is_free stay) (λ job. not (is_free stay job)) (λ _. refl) (drop held current),
      );
      last = search rules;
      ties = search rules;
    }
