use Rattle.std.proofs.Common.{◌≡◌, ◌+◌, ◌≤◌, length, take}
use Rattle.std.specs.Prelude.{vec_len}
use Rattle.pfs_exact.specs.Parts.{CoversSome, most_of}
use Rattle.pfs_exact.specs.Private.Nodes.{Continues, IsWork, goal_of, most_more}
use Rattle.pfs_exact.proofs.prove.prove_parts.Given as goal

abbrev pub invariant-loop-part : goal.invariant-loop-part
invariant-loop-part l = record {
  work : IsWork l.instance.shop l.work;
  continues : Continues l.instance.shop l.initial.work l.work;
  floor : l.work.floor ≡ l.initial.work.floor;
  rooms : l.instance.shop.jobs ≤ vec_len l.rooms;
  untouched : l.initial.work.left ≡ 0 → l.work.best ≡ l.initial.work.best;
  few : l.initial.work.left ≤ l.work.left + most_of l.instance.shop.jobs (take l.part-index l.parts);
  room : length l.work.parts.items ≤ l.part-index + most_more l.instance.shop.jobs;
  covered : CoversSome l.instance.shop (take l.part-index l.parts) (goal_of l.work) l.work.parts.items;
}
