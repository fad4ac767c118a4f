-- The random words of a stream, of a generator and of a seed.
use Rattle.std.proofs.Common.{◌≡◌, ℕ, zero, suc, ◌+◌, ◌*◌, List, ◌∷◌, ◌++◌, length, drop, refl, ap, ◌∙◌, arith}
use Rattle.std.proofs.Math.Nat.{zero-add, suc-add}
use Rattle.std.proofs.Math.Seq.{drop-append_seam}
use Rattle.rand_core.specs.Pcg32Seed.{pcg32_seed}
use Rattle.rand_core.specs.Steps.{stream_of, steps_u32, first_words}
use Rattle.rand_core.specs.Stream.{Stream, next_u32}
use Rattle.rand_core.proofs.StepsLemmas.{next_u32-stream_of}
use Rattle.rand_pcg.specs.Lcg.{Lcg, advance, state_after}
use Rattle.rand_pcg.specs.Pcg.{multiplier_64, pcg32, pcg32_of_seed}
use Rattle.pfs_search.specs.Greedy.{words_of, stream_after}
use Rattle.pfs_search.specs.Solution.{words_after}

-- ---- the random words of a stream

pub length-words_of : (n : ℕ) (s : Stream) → length (words_of n s) ≡ n
length-words_of zero s = refl
length-words_of (suc n) s = ap suc (length-words_of n (next_u32 s).1)

-- the next words of a stream are some words and the random words after them
pub words_of-add : (a b : ℕ) (s : Stream) → words_of (a + b) s ≡ words_of a s ++ words_of b (stream_after a s)
words_of-add zero b s = rw zero-add
words_of-add (suc a) b s = rw suc-add (ap (λ l. (next_u32 s).0 ∷ l) (words_of-add a b (next_u32 s).1))

pub stream_after-add : (a b : ℕ) (s : Stream) → stream_after (a + b) s ≡ stream_after b (stream_after a s)
stream_after-add zero b s = rw zero-add
stream_after-add (suc a) b s = rw suc-add (stream_after-add a b (next_u32 s).1)

-- ---- the random words of a generator

words_of_steps : {S : Type 0} (step : S → ℕ × S) (n : ℕ) (s : S)
    → words_of n (stream_of (steps_u32 step) s) ≡ first_words step n s
unfolding first_words
words_of_steps step zero s = refl
words_of_steps step (suc n) s =
    let next = next_u32-stream_of (steps_u32 step) s in
    ap (λ (p : ℕ × Stream). p.0 ∷ words_of n p.1) next ∙ ap (λ l. (step s).0 ∷ l) (words_of_steps step n (step s).1)

pub length-first_words : {S : Type 0} (step : S → ℕ × S) (n : ℕ) (s : S) → length (first_words step n s) ≡ n
unfolding first_words
length-first_words step zero s = refl
length-first_words step (suc n) s = ap suc (length-first_words step n (step s).1)

-- the generator after a number of words
abbrev pub later : ℕ → Lcg → Lcg
later n g = advance 64 multiplier_64 n g

-- the first words of a generator are some words and the random words after them
pub words-add : (a b : ℕ) (g : Lcg)
    → first_words pcg32 (a + b) g ≡ first_words pcg32 a g ++ first_words pcg32 b (later a g)
unfolding first_words state_after
words-add zero b g = rw zero-add
words-add (suc a) b g = rw suc-add (ap (λ l. (pcg32 g).0 ∷ l) (words-add a b (pcg32 g).1))

pub later-add : (a b : ℕ) (g : Lcg) → later (a + b) g ≡ later b (later a g)
unfolding state_after
later-add zero b g = rw zero-add
later-add (suc a) b g = rw suc-add (later-add a b (pcg32 g).1)

-- the random words after the first `a` words
words_later : (a b : ℕ) (g : Lcg) → drop a (first_words pcg32 (a + b) g) ≡ first_words pcg32 b (later a g)
words_later a b g =
    let firsts : List ℕ = first_words pcg32 a g in
    let rest : List ℕ = first_words pcg32 b (later a g) in
    rw (words-add a b g) (rw (length-first_words pcg32 a g) at (drop-append_seam firsts rest))

-- ---- the random words of a seed

abbrev pub of_seed : ℕ → Lcg
of_seed seed = pcg32_of_seed (pcg32_seed 16 seed)

pub after_are : (seed first count take : ℕ)
    → words_after seed first count take ≡ first_words pcg32 (count * take) (later (first * take) (of_seed seed))
after_are seed first count take =
    let all : (first + count) * take ≡ first * take + count * take = omega arith in
    rw all (words_later (first * take) (count * take) (of_seed seed))

-- the random words of a generator of a seed that has advanced past the first rounds
pub words_after_are : (seed : ℕ) (generator : Lcg) (first count take : ℕ)
    → generator ≡ later (first * take) (of_seed seed)
    → words_of (count * take) (stream_of (steps_u32 pcg32) generator) ≡ words_after seed first count take
words_after_are seed generator first count take e =
    rw (e, after_are seed first count take) (words_of_steps pcg32 (count * take) _)
