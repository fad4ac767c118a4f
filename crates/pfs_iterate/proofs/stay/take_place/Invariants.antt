use Rattle.std.proofs.Common.{◌≡◌, ◌+◌, ◌≤◌, length, take, drop}
use Rattle.pfs_iterate.specs.Private.Steps.{before, ranks_without}
use Rattle.pfs_iterate.proofs.stay.take_place.Given as goal

abbrev pub invariant-loop-index : goal.invariant-loop-index
invariant-loop-index l = record {
  few : l.place ≤ l.number + l.index;
  place : l.place ≡ l.number + before l.number (take l.index l.fn.ranks);
  done : take l.index l.ranks ≡ ranks_without l.number (take l.index l.fn.ranks);
  rest : drop l.index l.ranks ≡ drop l.index l.fn.ranks;
  long : length l.ranks ≡ length l.fn.ranks;
}
