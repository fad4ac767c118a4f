-- The result of a search by heads and tails, and the result of some of its rounds from a given order.
use Rattle.std.specs.Prelude.{◌≡◌, ℕ, ◌+◌, ◌-◌, ◌*◌, ◌≤◌, List, length, drop}
use Rattle.rand_core.specs.Pcg32Seed.{pcg32_seed}
use Rattle.rand_core.specs.Steps.{first_words}
use Rattle.rand_pcg.specs.Pcg.{pcg32, pcg32_of_seed}
use Rattle.pfs_base.specs.declared.limits.TheConstants.{MOST_ROUNDS, MOST_PASSES}
use Rattle.pfs_base.specs.FlowShop.{FlowShop}
use Rattle.pfs_base.specs.Paths.{makespan}
use Rattle.pfs_order.specs.Sequence.{IsSequence}
use Rattle.pfs_search.specs.Greedy.{after_rounds}
use Rattle.pfs_search.specs.Neh.{neh_order}
use Rattle.pfs_search.specs.declared.rounds.Rounds.{Rounds}

-- the first `count` random words of Pcg32 for a seed
abbrev pub words_for : ℕ → ℕ → List ℕ
words_for seed count = first_words pcg32 count (pcg32_of_seed (pcg32_seed 16 seed))

-- the order of a search: NEH's order, and after it `rounds` rounds, each of which removes `take` jobs by the next
-- `take` random words of the seed, and makes `passes` passes
abbrev pub searched : FlowShop → ℕ → ℕ → ℕ → ℕ → List ℕ
searched shop rounds take passes seed = after_rounds shop passes rounds take (neh_order shop)
    (words_for seed (rounds * take))

-- the random words of the `count` rounds after the first `first` rounds of a seed: the random words of all these rounds
-- without those of the first
abbrev pub words_after : ℕ → ℕ → ℕ → ℕ → List ℕ
words_after seed first count take = drop (first * take) (words_for seed ((first + count) * take))

-- the order after rounds `first` to `first` + `count` - 1 of a seed, counted from 0, from the order `start`
abbrev pub improved : FlowShop → List ℕ → ℕ → ℕ → ℕ → ℕ → ℕ → List ℕ
improved shop start first count take passes seed = after_rounds shop passes count take start
    (words_after seed first count take)

-- rounds after the first `first` rounds of a seed: each removes at least one job and at most all jobs of the shop, and
-- the number of rounds and that of passes are within their limits
pub record InLimits (shop : FlowShop) (first : ℕ) (rounds : Rounds) : Type 0 where
  pub some : 1 ≤ rounds.take
  pub few : rounds.take ≤ shop.jobs
  pub count : first + rounds.count ≤ MOST_ROUNDS
  pub passes : rounds.passes ≤ MOST_PASSES

-- the cells of NEH: 2mn² for n jobs on m machines
abbrev pub neh_cells : FlowShop → ℕ
neh_cells shop = 2 * shop.machines * (shop.jobs * shop.jobs)

-- NEH's order, its makespan, and the number of cells that NEH counts
pub record IsNeh (shop : FlowShop) (order : List ℕ) (span cells : ℕ) : Type 0 where
  pub found : order ≡ neh_order shop
  -- it contains each job once
  pub all : length order ≡ shop.jobs
  pub distinct : IsSequence shop.jobs order
  pub spanned : span ≡ makespan shop order
  pub counted : cells ≡ neh_cells shop

-- the cells of R rounds that each remove d jobs and make L passes: 2Rdm(2n - d) + RLnm(4n - 2)
abbrev pub rounds_cells : FlowShop → ℕ → ℕ → ℕ → ℕ
rounds_cells shop rounds take passes =
    rounds * (2 * take * shop.machines * (2 * shop.jobs - take))
    + rounds * (passes * shop.jobs * shop.machines * (4 * shop.jobs - 2))

-- the result of a search of `rounds` rounds: an order, its makespan, and the number of cells that the search counted
pub record IsFound (shop : FlowShop) (rounds take passes seed : ℕ) (order : List ℕ) (span cells : ℕ) : Type 0 where
  -- the order is the one after NEH and the rounds
  pub found : order ≡ searched shop rounds take passes seed
  -- the order has each job once
  pub all : length order ≡ shop.jobs
  pub distinct : IsSequence shop.jobs order
  -- the makespan is this order's, and at most that of NEH's order
  pub spanned : span ≡ makespan shop order
  pub no_longer : span ≤ makespan shop (neh_order shop)
  -- the cells are those of NEH and those of the rounds, and these are at most R(d + Ln)m(4n - 2)
  pub counted : cells ≡ neh_cells shop + rounds_cells shop rounds take passes
  pub few_cells : rounds_cells shop rounds take passes ≤ rounds * (take + passes * shop.jobs) * shop.machines
      * (4 * shop.jobs - 2)

-- the result of rounds `first` to `first` + `count` - 1 of a seed from the order `start`: an order, its makespan, and
-- the number of cells of these rounds
pub record IsImproved (shop : FlowShop) (start : List ℕ) (first count take passes seed : ℕ) (order : List ℕ)
    (span cells : ℕ) : Type 0 where
  -- the order is the one after the rounds from `start`
  pub found : order ≡ improved shop start first count take passes seed
  -- the order has each job once
  pub all : length order ≡ shop.jobs
  pub distinct : IsSequence shop.jobs order
  -- the makespan is this order's, and at most that of `start`
  pub spanned : span ≡ makespan shop order
  pub no_longer : span ≤ makespan shop start
  -- the cells are those of the rounds alone, which are at most R(d + Ln)m(4n - 2)
  pub counted : cells ≡ rounds_cells shop count take passes
  pub few_cells : rounds_cells shop count take passes ≤ count * (take + passes * shop.jobs) * shop.machines
      * (4 * shop.jobs - 2)

-- rounds in two parts find the order that all of them find at once
abbrev pub PartsLaw : Type 0
PartsLaw = (shop : FlowShop) (start : List ℕ) (first one other take passes seed : ℕ)
    → improved shop start first (one + other) take passes seed
    ≡ improved shop (improved shop start first one take passes seed) (first + one) other take passes seed

-- where the second of two parts begins with the order of the first, its order and makespan, and the sum of both counts,
-- are those of all these rounds at once
abbrev pub JoinedPartsLaw : Type 0
JoinedPartsLaw = (shop : FlowShop) (start : List ℕ) (first one other take passes seed : ℕ)
    (between order : List ℕ) (between_span span cells more : ℕ)
    → IsImproved shop start first one take passes seed between between_span cells
    → IsImproved shop between (first + one) other take passes seed order span more
    → IsImproved shop start first (one + other) take passes seed order span (cells + more)

-- a search finds the order that its rounds, from round 0 on, find from NEH's order
abbrev pub SearchedLaw : Type 0
SearchedLaw = (shop : FlowShop) (rounds take passes seed : ℕ)
    → searched shop rounds take passes seed ≡ improved shop (neh_order shop) 0 rounds take passes seed

-- a search of some rounds, or of none, and then the rounds after these have the result of a search of all of them, and
-- their counts add up to its count
abbrev pub LongerSearchLaw : Type 0
LongerSearchLaw = (shop : FlowShop) (one other take passes seed : ℕ)
    (between order : List ℕ) (between_span span cells more : ℕ)
    → IsFound shop one take passes seed between between_span cells
    → IsImproved shop between one other take passes seed order span more
    → IsFound shop (one + other) take passes seed order span (cells + more)
