use Rattle.std.proofs.Common.{◌≡◌, take, vec_len}
use Rattle.pfs_search.specs.Greedy.{words_of, stream_after}
use Rattle.pfs_search.proofs.greedy.draw_words.Given as goal

abbrev pub invariant-loop-place : goal.invariant-loop-place
invariant-loop-place g l = record {
  words : take l.place l.words.items ≡ words_of l.place (g.R.Rng.stream l.fn.rng);
  len : vec_len l.words ≡ vec_len l.fn.words;
  stream : g.R.Rng.stream l.rng ≡ stream_after l.place (g.R.Rng.stream l.fn.rng);
}
