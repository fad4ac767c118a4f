use Rattle.std.proofs.Common.{length}
use Rattle.pfs_c.specs.Random.{words_from}
use Rattle.pfs_c.proofs.RandomWords.{AreDrawn}
use Rattle.pfs_c.proofs.random.pfs_random.Given as goal

abbrev pub invariant-loop-place : goal.invariant-loop-place
invariant-loop-place l = AreDrawn (words_from l.seed l.first (length l.initial.words)) l.words l.place l.rng
