-- Rounds in parts.
use Rattle.std.proofs.Common.{◌≡◌, ℕ, zero, suc, ◌+◌, ◌*◌, ◌≤◌, List, ◌++◌, length, take as front, drop}
use Rattle.std.proofs.Common.{ap₂, ◌∙◌, arith}
use Rattle.std.proofs.Math.Nat.{zero-add, suc-add}
use Rattle.std.proofs.lemmas.List.{take-append-le, drop-append-le, length-drop, nil_from_length}
use Rattle.rand_pcg.specs.Lcg.{Lcg}
use Rattle.rand_pcg.specs.Pcg.{pcg32}
use Rattle.pfs_base.specs.FlowShop.{FlowShop}
use Rattle.pfs_search.specs.Greedy.{after_round, after_rounds}
use Rattle.pfs_search.specs.Solution.{words_after, PartsLaw, SearchedLaw}
use Rattle.pfs_search.proofs.Published.Words.{length-first_words, later, words-add, later-add, of_seed, after_are}

-- ---- parts

-- the random words of all rounds are those of some rounds and those of the rounds after them
after-add : (seed first one other take : ℕ) → words_after seed first (one + other) take
    ≡ words_after seed first one take ++ words_after seed (first + one) other take
after-add seed first one other take =
    let both : (one + other) * take ≡ one * take + other * take = omega arith in
    let so_far : (first + one) * take ≡ first * take + one * take = omega arith in
    let g : Lcg = of_seed seed in
    rw (
      after_are seed first (one + other) take,
      after_are seed first one take,
      after_are seed (first + one) other take,
      both,
      so_far,
      later-add (first * take) (one * take) g,
    )
    (words-add (one * take) (other * take) (later (first * take) g))

length-words_after : (seed first count take : ℕ) → length (words_after seed first count take) ≡ count * take
length-words_after seed first count take =
    rw (after_are seed first count take) (length-first_words pcg32 (count * take) _)

-- rounds on all words are rounds on some words and then on the random words after them
rounds-add : (shop : FlowShop) (passes take one other : ℕ) (jobs ws us : List ℕ) → length ws ≡ one * take
    → after_rounds shop passes (one + other) take jobs (ws ++ us)
    ≡ after_rounds shop passes other take (after_rounds shop passes one take jobs ws) us
rounds-add shop passes take zero other jobs ws us long = rw (zero-add, nil_from_length ws (omega arith))
rounds-add shop passes take (suc one) other jobs ws us long =
    let fits : take ≤ length ws = omega arith in
    let once : List ℕ = after_round shop passes jobs (front take ws) in
    let go_on = after_rounds shop passes (one + other) take in
    rw suc-add (ap₂ (λ words rest. go_on (after_round shop passes jobs words) rest)
    (take-append-le take ws us fits) (drop-append-le take ws us fits)
    ∙ rounds-add shop passes take one other once (drop take ws) us (omega (arith, length-drop take ws)))

pub parts_law : PartsLaw
parts_law shop start first one other take passes seed =
    rw (after-add seed first one other take) (rounds-add shop passes take one other start _ _
    (length-words_after seed first one take))

-- ---- from the first round on

pub searched_law : SearchedLaw
searched_law shop rounds take passes seed =
    let none : 0 * take ≡ 0 = omega arith in
    rw (none, zero-add rounds)
