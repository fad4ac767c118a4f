-- The random words of a round.
use Rattle.std.proofs.Common.{◌≡◌, ℕ, ◌+◌, ◌-◌, ◌*◌, ◌≤◌, ◌⊎◌, List, [], ◌∷◌, ◌++◌, length, take as front, drop}
use Rattle.std.proofs.Common.{inl, inr, refl, sym, ap, ap₂, ◌∙◌, arith}
use Rattle.std.proofs.lemmas.List.{drop-take, get_or-take, take-append-le, take-take, take_all}
use Rattle.rand_core.specs.Steps.{first_words}
use Rattle.rand_pcg.specs.Lcg.{Lcg, state_after}
use Rattle.rand_pcg.specs.Pcg.{pcg32}
use Rattle.pfs_base.specs.FlowShop.{FlowShop}
use Rattle.pfs_base.specs.Paths.{makespan}
use Rattle.pfs_search.specs.Solution.{words_after}
use Rattle.pfs_search.proofs.Published.Words.{after_are, later, later-add, length-first_words, of_seed, words-add}
use Rattle.pfs_iterate.specs.declared.options.Options.{Options}
use Rattle.pfs_iterate.specs.Iterated.{State, after_round, order_of_round, is_accepted}
use Rattle.pfs_iterate.specs.Private.Steps.{generator}
use Rattle.std.specs.Prelude.{if◌then◌else◌, nat_lt}

-- ---- the words of a generator

pub words_more : (count : ℕ) (g : Lcg)
    → first_words pcg32 (count + 1) g ≡ first_words pcg32 count g ++ (pcg32 (later count g)).0 ∷ []
unfolding first_words
words_more count g = words-add count 1 g

pub later_more : (count : ℕ) (g : Lcg) → later (count + 1) g ≡ (pcg32 (later count g)).1
unfolding state_after
later_more count g = later-add count 1 g

-- the generator after a round
pub generator_more : (seed first done each : ℕ)
    → generator seed (first + (done + 1)) each ≡ later each (generator seed (first + done) each)
generator_more seed first done each =
    let more : (first + (done + 1)) * each ≡ (first + done) * each + each = omega arith in
    rw more (later-add ((first + done) * each) each (of_seed seed))

pub length-round : (seed rounds each : ℕ) → length (words_after seed rounds 1 each) ≡ each
length-round seed rounds each =
    let one : 1 * each ≡ each = omega arith in
    ap length (after_are seed rounds 1 each) ∙ length-first_words pcg32 (1 * each) (generator seed rounds each) ∙ one

-- the first words of a round
pub first_of_round : (seed rounds each used : ℕ) → used ≤ each
    → first_words pcg32 used (generator seed rounds each) ≡ front used (words_after seed rounds 1 each)
first_of_round seed rounds each used few =
    let g = generator seed rounds each in
    let firsts : List ℕ = first_words pcg32 used g in
    let long = length-first_words pcg32 used g in
    let all : 1 * each ≡ used + (each - used) = omega arith in
    sym (
    ap (front used) (after_are seed rounds 1 each ∙ ap (λ n. first_words pcg32 n g) all ∙ words-add used (each - used) g)
    ∙ take-append-le used firsts (first_words pcg32 (each - used) (later used g)) (omega arith)
    ∙ take_all used firsts (omega arith)
    )

-- ---- words that decide nothing

module _ (shop : FlowShop) (options : Options) (stay : List ℕ) (partial : options.partial ≡ 0) (passes : options.passes ≡ 0) where
  order_front : (order words : List ℕ) (used : ℕ) → options.take ≤ used
      → order_of_round shop options stay order (front used words) ≡ order_of_round shop options stay order words
  order_front order words used few = rw (partial, passes, take-take options.take used words few) refl

  round_front : (accept : List ℕ) (state : State) (words : List ℕ) (used : ℕ) → options.take + 1 ≤ used
      → after_round shop options accept stay state (front used words) ≡ after_round shop options accept stay state words
  round_front accept state words used few =
      let rest : used ≡ 1 + (used - 1) = omega arith in
      let behind : drop 1 (front used words) ≡ front (used - 1) (drop 1 words) =
      ap (λ n. drop 1 (front n words)) rest ∙ drop-take 1 (used - 1) words in
      let outcome : List ℕ → ℕ → State = λ (new : List ℕ) (word : ℕ). record {
        current = if is_accepted accept (makespan shop state.current) (makespan shop new) word then new else state.current;
        best = if nat_lt (makespan shop new) (makespan shop state.best) then new else state.best;
      } in
      ap₂ outcome
      (ap (order_of_round shop options stay state.current) behind
      ∙ order_front state.current (drop 1 words) (used - 1) (omega arith))
      (get_or-take used words 0 0 (omega arith))

-- a round with no pass is one by its first words
pub round_used : (shop : FlowShop) (options : Options) (accept stay : List ℕ) (state : State) (words : List ℕ) (used : ℕ)
    → options.take + 1 ≤ used → (used ≡ length words) ⊎ ((options.partial ≡ 0) × (options.passes ≡ 0))
    → after_round shop options accept stay state (front used words) ≡ after_round shop options accept stay state words
round_used shop options accept stay state words used few either =
    elim either [
      | inl all ↦ ap (after_round shop options accept stay state) (take_all used words (omega arith))
      | inr none ↦ round_front shop options stay none.0 none.1 accept state words used few
    ]
