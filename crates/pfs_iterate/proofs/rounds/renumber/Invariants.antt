use Rattle.std.proofs.Common.{◌≡◌, length, map, take, drop}
use Rattle.pfs_iterate.specs.Private.Steps.{renumbered}
use Rattle.pfs_iterate.proofs.rounds.renumber.Given as goal

abbrev pub invariant-loop-index : goal.invariant-loop-index
invariant-loop-index l = record {
  done : take l.index l.jobs ≡ map (renumbered l.one) (take l.index l.fn.jobs);
  rest : drop l.index l.jobs ≡ drop l.index l.fn.jobs;
  long : length l.jobs ≡ length l.fn.jobs;
}
