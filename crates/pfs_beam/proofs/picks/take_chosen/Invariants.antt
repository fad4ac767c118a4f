use Rattle.std.proofs.Common.{◌≡◌, ℕ, ◌<◌, ◌≤◌, All, vec_len, vec_capacity}
use Rattle.pfs_beam.specs.Private.Nodes.{AreChildren}
use Rattle.pfs_beam.proofs.picks.take_chosen.Given as goal

abbrev pub invariant-loop-number : goal.invariant-loop-number
invariant-loop-number l = record {
  capacity : vec_capacity l.children ≡ vec_capacity l.fn.children;
  len : vec_len l.children ≡ vec_len l.fn.children;
  few : vec_len l.picks.chosen ≤ l.width;
  all : vec_len l.picks.chosen ≤ vec_len l.fn.children;
  numbers : All (λ number. number < vec_len l.fn.children) l.picks.chosen.items;
  kept : (nodes first end : ℕ) → AreChildren nodes first end l.fn.children.items
      → AreChildren nodes first end l.children.items;
}
