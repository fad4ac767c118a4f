use Rattle.std.proofs.Common.{◌≡◌}
use Rattle.std.specs.List.{slice_index_or}
use Rattle.pfs_iterate.specs.Iterated.{total_delay}
use Rattle.pfs_iterate.specs.Private.Steps.{IsBestFrom}
use Rattle.pfs_iterate.proofs.places.least_delay.Given as goal

abbrev pub invariant-loop-place : goal.invariant-loop-place
invariant-loop-place l =
    let shop = l.instance.shop in
    record {
      best : IsBestFrom (λ place. slice_index_or l.spans place 0) (total_delay shop l.heads.jobs.items l.job) l.held l.place
          l.found;
      span : slice_index_or l.spans l.found 0 ≡ l.best.span;
      least : l.least ≡ total_delay shop l.heads.jobs.items l.job l.found;
    }
