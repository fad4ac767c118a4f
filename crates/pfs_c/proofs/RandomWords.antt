-- The random words of a generator, one by one.
use Rattle.std.proofs.Common.{◌≡◌, ℕ, zero, suc, ◌+◌, ◌-◌, ◌<◌, ◌≤◌, List, ◌∷◌, ◌++◌, length, take, drop, set}
use Rattle.std.proofs.Common.{ap, sym, length-set, zero-add, suc-add, append_assoc, arith}
use Rattle.std.proofs.lemmas.List.{append-nil, take_all, take_more_set}
use Rattle.rand_core.specs.Pcg32Seed.{pcg32_seed}
use Rattle.rand_core.specs.Steps.{first_words}
use Rattle.rand_pcg.specs.Lcg.{Lcg, advance, state_after}
use Rattle.rand_pcg.specs.Pcg.{multiplier_64, pcg32, pcg32_of_seed}
use Rattle.pfs_c.specs.Random.{words_from}

-- the places of a list before `place` contain the first of these words, and a generator gives the rest
abbrev pub AreDrawn : List ℕ → List ℕ → ℕ → Lcg → Type 0
AreDrawn wanted words place now = take place words ++ first_words pcg32 (length words - place) now ≡ wanted

words_later : (a b : ℕ) (g : Lcg)
    → first_words pcg32 b (advance 64 multiplier_64 a g) ≡ drop a (first_words pcg32 (a + b) g)
unfolding first_words state_after
words_later zero b g = rw zero-add
words_later (suc a) b g = rw suc-add (words_later a b (pcg32 g).1)

pub drawn_first : (seed first : ℕ) (words : List ℕ) (start now : Lcg) → start ≡ pcg32_of_seed (pcg32_seed 16 seed)
    → now ≡ advance 64 multiplier_64 first start → AreDrawn (words_from seed first (length words)) words 0 now
drawn_first seed first words start now seeded advanced =
    let all : length words - 0 ≡ length words = omega arith in
    rw (all, advanced, seeded) (words_later first (length words) (pcg32_of_seed (pcg32_seed 16 seed)))

pub drawn_more : (wanted words : List ℕ) (place word : ℕ) (now next : Lcg) → AreDrawn wanted words place now
    → place < length words → (word, next) ≡ pcg32 now → AreDrawn wanted (set words place word) (place + 1) next
unfolding first_words
drawn_more wanted words place word now next drawn within is =
    let left : length words - place ≡ suc (length words - (place + 1)) = omega arith in
    let step : first_words pcg32 (suc (length words - (place + 1))) now
    ≡ word ∷ first_words pcg32 (length words - (place + 1)) next =
    ap (λ (p : ℕ × Lcg). p.0 ∷ first_words pcg32 (length words - (place + 1)) p.1) (sym is) in
    rw (length-set words place word, take_more_set words place word within, append_assoc) (rw (left, step) at drawn)

pub drawn_last : (wanted words : List ℕ) (place : ℕ) (now : Lcg) → AreDrawn wanted words place now
    → length words ≤ place → words ≡ wanted
unfolding first_words
drawn_last wanted words place now drawn all =
    let none : length words - place ≡ 0 = omega arith in
    rw (none, take_all place words all, append-nil) at drawn
