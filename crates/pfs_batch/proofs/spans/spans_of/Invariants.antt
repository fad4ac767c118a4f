use Rattle.std.proofs.Common.{◌≡◌, ℕ, ◌<◌, length, get_or}
use Rattle.pfs_base.specs.FlowShop.{FlowShop}
use Rattle.pfs_base.specs.Paths.{operation}
use Rattle.pfs_batch.specs.Private.Ends.{sequence_from, values_of}
use Rattle.pfs_batch.proofs.Heads.{AreHeads}
use Rattle.pfs_batch.proofs.spans.spans_of.Given as goal

abbrev pub invariant-loop-place : goal.invariant-loop-place
invariant-loop-place l = record {
  long : length l.ends ≡ length l.fn.ends;
  heads : (shop : FlowShop) (lane : ℕ) → shop.machines ≡ l.machines
      → ((at : ℕ) → get_or shop.times at 0 ≡ get_or l.rows at 0) → lane < 8
      → AreHeads (operation shop (sequence_from l.sequences l.len (get_or l.firsts lane 0))) lane l.machines l.place
      (values_of l.ends);
}
