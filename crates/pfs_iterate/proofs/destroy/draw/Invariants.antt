use Rattle.std.proofs.Common.{◌≡◌, take}
use Rattle.rand_core.specs.Steps.{first_words}
use Rattle.rand_pcg.specs.Pcg.{pcg32}
use Rattle.pfs_search.proofs.Published.Words.{later}
use Rattle.pfs_iterate.proofs.destroy.draw.Given as goal

abbrev pub invariant-loop-place : goal.invariant-loop-place
invariant-loop-place l = record {
  words : take l.place l.words ≡ first_words pcg32 l.place l.fn.rng;
  rng : l.rng ≡ later l.place l.fn.rng;
}
