use Rattle.std.proofs.Common.{◌≡◌, ◌*◌, ◌<◌, All, length, vec_len}
use Rattle.pfs_beam.specs.Private.Nodes.{HasRoom}
use Rattle.pfs_beam.proofs.picks.list_marks.Given as goal

abbrev pub invariant-loop-number : goal.invariant-loop-number
invariant-loop-number l = record {
  room : HasRoom (2 * l.width) l.picks;
  all : vec_len l.picks.marks ≡ l.number;
  numbers : All (λ entry. entry.1 < length l.children) l.picks.marks.items;
}
