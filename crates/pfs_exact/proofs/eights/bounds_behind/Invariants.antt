use Rattle.std.proofs.Common.{◌≡◌, ℕ, ◌*◌, ◌<◌, List, ◌∷◌, length, get_or}
use Rattle.pfs_exact.specs.Private.Ahead.{AreBehind}
use Rattle.pfs_exact.specs.Private.Nodes.{NoneShorter}
use Rattle.pfs_exact.proofs.eights.bounds_behind.Given as goal

abbrev pub invariant-loop-block : goal.invariant-loop-block
invariant-loop-block l = record {
  long : length l.bounds ≡ length l.fn.bounds;
  done : (front back : List ℕ) → AreBehind l.instance.shop front back l.rests l.least l.sums
      → (job : ℕ) → job < 8 * l.block → job < l.instance.shop.jobs
      → NoneShorter l.instance.shop front (job ∷ back) (get_or l.bounds job 0);
}
