use Rattle.std.proofs.Common.{◌≡◌, ◌<◌, ◌≤◌, All, vec_len, vec_capacity}
use Rattle.pfs_beam.proofs.picks.choose.Given as goal

abbrev pub invariant-loop-index : goal.invariant-loop-index
invariant-loop-index l = record {
  marks : l.picks.marks ≡ l.fn.picks.marks;
  room : vec_capacity l.picks.chosen ≡ vec_capacity l.fn.picks.chosen;
  few : vec_len l.picks.chosen ≤ l.index;
  numbers : All (λ number. number < l.count) l.picks.chosen.items;
}
