use Rattle.std.proofs.Common.{◌≡◌, ◌≤◌, [], All, take}
use Rattle.pfs_exact.specs.declared.parts.Part.{Part}
use Rattle.pfs_exact.proofs.parts.least_bound.Given as goal

abbrev pub invariant-loop-part : goal.invariant-loop-part
invariant-loop-part l = record {
  number : l.least ≤ l.number;
  parts : All (λ (part : Part). l.least ≤ part.bound) (take l.part-index l.parts);
  none : l.parts ≡ [] → l.least ≡ l.number;
}
