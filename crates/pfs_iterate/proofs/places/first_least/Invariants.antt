use Rattle.std.proofs.Common.{◌≡◌, ◌-◌}
use Rattle.std.specs.List.{slice_index_or}
use Rattle.pfs_iterate.specs.Private.Steps.{IsLeastFrom}
use Rattle.pfs_iterate.proofs.places.first_least.Given as goal

abbrev pub invariant-loop-place : goal.invariant-loop-place
invariant-loop-place l = record {
  least : IsLeastFrom (λ place. slice_index_or l.spans place 0) l.held l.place l.found.place (l.place - 1);
  span : l.found.span ≡ slice_index_or l.spans l.found.place 0;
}
