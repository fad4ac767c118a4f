use Rattle.std.proofs.Common.{◌≡◌, ℕ, ◌<◌, length, get_or}
use Rattle.pfs_exact.specs.declared.children.TheConstants.{CLOSED}
use Rattle.pfs_exact.proofs.eights.widen.Given as goal

abbrev pub invariant-loop-job : goal.invariant-loop-job
invariant-loop-job l = record {
  long : length l.bounds ≡ 256;
  shut : (k : ℕ) → k < l.job → get_or l.bounds k 0 < CLOSED → get_or l.shut k 0 ≡ 0;
  unshut : (k : ℕ) → k < l.job → get_or l.shut k 0 ≡ 0 → get_or l.bounds k 0 ≡ get_or l.numbers k 0;
}
