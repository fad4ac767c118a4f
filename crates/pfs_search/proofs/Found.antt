-- The result and the count of a search, and of some of its rounds from a given order.
use Rattle.std.proofs.Common.{◌≡◌, ℕ, ◌+◌, ◌-◌, ◌*◌, ◌<◌, ◌≤◌, ◌^◌, List, length, refl, ap, ◌∙◌, arith, lit<}
use Rattle.std.proofs.Math.Nat.{mul-le-mul, mul-le-mul_left, mul-le-mul_right, zero-add}
use Rattle.rand_core.specs.Pcg32Seed.{pcg32_seed}
use Rattle.rand_core.specs.Steps.{stream_of, steps_u32}
use Rattle.rand_core.specs.Stream.{Stream}
use Rattle.rand_pcg.specs.Lcg.{Lcg, advance}
use Rattle.rand_pcg.specs.Pcg.{multiplier_64, pcg32, pcg32_of_seed}
use Rattle.pfs_base.specs.declared.limits.TheConstants.{MOST_JOBS, MOST_PASSES, MOST_ROUNDS}
use Rattle.pfs_base.specs.Limits.{limits}
use Rattle.pfs_base.specs.FlowShop.{FlowShop, IsWithin}
use Rattle.pfs_base.specs.Paths.{makespan}
use Rattle.pfs_base.proofs.Published.Heads.{none_longer}
use Rattle.pfs_order.specs.Sequence.{IsSequence}
use Rattle.pfs_order.proofs.Published.Sequences.{length-le-size}
use Rattle.pfs_insert.specs.Insertion.{heads_tails_cost}
use Rattle.pfs_search.specs.Costs.{neh_cost, round_cost, HasClosedCosts}
use Rattle.pfs_search.specs.Greedy.{after_rounds, words_of}
use Rattle.pfs_search.specs.MostCells.{most_neh_cells, most_rounds_cells, FewNehCells, FewRoundsCells}
use Rattle.pfs_search.specs.Neh.{neh_order}
use Rattle.pfs_search.specs.Solution.{neh_cells, rounds_cells, searched, improved, IsFound, IsImproved, IsNeh}
use Rattle.pfs_search.specs.Solution.{JoinedPartsLaw, LongerSearchLaw}
use Rattle.pfs_search.proofs.Parts.{parts_law, searched_law}
use Rattle.pfs_search.proofs.Published.Words.{words_after_are}
use Rattle.pfs_search.proofs.Published.CostSums.{costs_law}

-- ---- cells

pub closed : HasClosedCosts heads_tails_cost
closed = costs_law heads_tails_cost (λ count machines some. refl)

-- the cells of `rounds` rounds
each_round : (rounds put_back passes jobs machines width : ℕ) → rounds * (put_back + passes * jobs * machines * width)
    ≡ rounds * put_back + rounds * (passes * jobs * machines * width)
each_round rounds put_back passes jobs machines width = omega arith

rounds_cells_are : (shop : FlowShop) (rounds take passes : ℕ) → take ≤ shop.jobs
    → rounds * round_cost heads_tails_cost shop.jobs shop.machines take passes ≡ rounds_cells shop rounds take passes
rounds_cells_are shop rounds take passes few =
    let put_back : ℕ = 2 * take * shop.machines * (2 * shop.jobs - take) in
    rw (closed.round shop.jobs shop.machines take passes few)
    (each_round rounds put_back passes shop.jobs shop.machines (4 * shop.jobs - 2))

rounds_cells_few : (shop : FlowShop) (rounds take passes : ℕ) → take ≤ shop.jobs
    → rounds_cells shop rounds take passes ≤ rounds * (take + passes * shop.jobs) * shop.machines * (4 * shop.jobs - 2)
rounds_cells_few shop rounds take passes few =
    rw (rounds_cells_are shop rounds take passes few) at (closed.rounds rounds shop.jobs shop.machines take passes few)

-- the cells of NEH and of rounds on a bench over the same shop
pub neh_cost_is : (own shop : FlowShop) → own ≡ shop → neh_cost heads_tails_cost own.jobs own.machines ≡ neh_cells shop
neh_cost_is own shop same = closed.neh own.jobs own.machines ∙ ap neh_cells same

pub rounds_cost_is : (own shop : FlowShop) (rounds take passes : ℕ) → own ≡ shop → take ≤ shop.jobs
    → rounds * round_cost heads_tails_cost own.jobs own.machines take passes ≡ rounds_cells shop rounds take passes
rounds_cost_is own shop rounds take passes same few =
    ap (λ (s : FlowShop). rounds * round_cost heads_tails_cost s.jobs s.machines take passes) same
    ∙ rounds_cells_are shop rounds take passes few

-- the cells of all rounds are the sum of the cells of two parts
cells_of_parts : (a b put_back passed : ℕ)
    → (a + b) * put_back + (a + b) * passed ≡ a * put_back + a * passed + (b * put_back + b * passed)
cells_of_parts a b put_back passed = omega arith

cells-add : (shop : FlowShop) (one other take passes : ℕ) → rounds_cells shop (one + other) take passes
    ≡ rounds_cells shop one take passes + rounds_cells shop other take passes
cells-add shop one other take passes =
    cells_of_parts one other (2 * take * shop.machines * (2 * shop.jobs - take))
    (passes * shop.jobs * shop.machines * (4 * shop.jobs - 2))

-- the bound for all rounds is the sum of the bounds for two parts
few_of_parts : (a b x machines width one other : ℕ) → one ≤ a * x * machines * width → other ≤ b * x * machines * width
    → one + other ≤ (a + b) * x * machines * width
few_of_parts a b x machines width one other h k = omega arith

few-add : (shop : FlowShop) (one other take passes : ℕ) → let x = take + passes * shop.jobs in
    let width = 4 * shop.jobs - 2 in
    rounds_cells shop one take passes ≤ one * x * shop.machines * width
    → rounds_cells shop other take passes ≤ other * x * shop.machines * width
    → rounds_cells shop (one + other) take passes ≤ (one + other) * x * shop.machines * width
few-add shop one other take passes h k =
    rw (cells-add shop one other take passes)
    (few_of_parts one other (take + passes * shop.jobs) shop.machines (4 * shop.jobs - 2) _ _ h k)

-- ---- bounds, over numbers alone

through : (a b c : ℕ) → a ≤ b → b ≤ c → a ≤ c
through a b c h k = omega arith

below_room : (cells most : ℕ) → cells ≤ most → most < 2 ^ 62 → cells < 2 ^ 62
below_room cells most h room = omega arith

-- the greatest numbers of cells within the limits
pub few_neh_cells : FewNehCells
few_neh_cells shop within =
    mul-le-mul (mul-le-mul_left 2 within.sizes.few_machines) (mul-le-mul within.sizes.few_jobs within.sizes.few_jobs)

pub few_rounds_cells : FewRoundsCells
few_rounds_cells shop rounds take passes within few short scarce =
    let sizes = within.sizes in
    let few_jobs = sizes.few_jobs in
    let moves = mul-le-mul scarce few_jobs in
    let moved : take + passes * shop.jobs ≤ MOST_JOBS + MOST_PASSES * MOST_JOBS = omega arith in
    let width : 4 * shop.jobs - 2 ≤ 4 * MOST_JOBS - 2 = omega arith in
    through _ _ most_rounds_cells (rounds_cells_few shop rounds take passes few)
    (mul-le-mul (mul-le-mul (mul-le-mul short moved) sizes.few_machines) width)

-- a count has room for these cells
pub neh_fits : (shop : FlowShop) → IsWithin limits shop → neh_cells shop < 2 ^ 62
neh_fits shop within = below_room _ most_neh_cells (few_neh_cells shop within) (lit< tt)

pub rounds_fit : (shop : FlowShop) (rounds take passes : ℕ) → IsWithin limits shop → take ≤ shop.jobs
    → rounds ≤ MOST_ROUNDS → passes ≤ MOST_PASSES → rounds_cells shop rounds take passes < 2 ^ 62
rounds_fit shop rounds take passes within few short scarce =
    below_room _ most_rounds_cells (few_rounds_cells shop rounds take passes within few short scarce) (lit< tt)

pub insertion_fits : (shop : FlowShop) (jobs : List ℕ) → IsWithin limits shop → IsSequence shop.jobs jobs
    → heads_tails_cost (length jobs + 1) shop.machines < 2 ^ 62
insertion_fits shop jobs within sequence =
    let few : 4 * (length jobs + 1) - 2 ≤ 20002 =
    omega (arith, length-le-size shop.jobs jobs sequence, within.sizes.few_jobs) in
    let cells = mul-le-mul_right shop.machines few in
    omega (arith, cells, within.sizes.few_machines)

-- ---- makespans

pub makespan_short : (shop : FlowShop) (order : List ℕ) → IsWithin limits shop → length order ≡ shop.jobs
    → makespan shop order < 10 ^ 18
makespan_short shop order within e = omega (arith, none_longer shop order within (omega (arith, e)))

-- ---- results

-- a number of rounds on the random words of a stream are completed
pub record RoundsDone (shop : FlowShop) (rounds take passes : ℕ) (stream : Stream) (old : List ℕ) (old_span : ℕ)
    (order : List ℕ) (span : ℕ) : Type 0 where
  pub is_order : order ≡ after_rounds shop passes rounds take old (words_of (rounds * take) stream)
  pub is_span : span ≡ makespan shop order
  pub never_rises : span ≤ old_span

pub improved_is : (shop : FlowShop) (first count take passes seed : ℕ) (generator : Lcg) (start : List ℕ)
    (start_span : ℕ) (order : List ℕ) (span : ℕ) → take ≤ shop.jobs
    → generator ≡ advance 64 multiplier_64 (first * take) (pcg32_of_seed (pcg32_seed 16 seed))
    → start_span ≡ makespan shop start
    → RoundsDone shop count take passes (stream_of (steps_u32 pcg32) generator) start start_span order span
    → length order ≡ shop.jobs → IsSequence shop.jobs order
    → IsImproved shop start first count take passes seed order span (rounds_cells shop count take passes)
improved_is shop first count take passes seed generator start start_span order span few advanced spanned done all
    distinct = record {
      found = done.is_order ∙ rw (words_after_are seed generator first count take advanced);
      all = all;
      distinct = distinct;
      spanned = done.is_span;
      no_longer = rw (← spanned) done.never_rises;
      counted = refl;
      few_cells = rounds_cells_few shop count take passes few;
    }

-- ---- parts

pub joined_parts_law : JoinedPartsLaw
joined_parts_law shop start first one other take passes seed between order between_span span cells more begun gone_on =
    record {
      found = rw (parts_law shop start first one other take passes seed, ← begun.found) gone_on.found;
      all = gone_on.all;
      distinct = gone_on.distinct;
      spanned = gone_on.spanned;
      no_longer = omega (arith, gone_on.no_longer, begun.spanned, begun.no_longer);
      counted = rw (begun.counted, gone_on.counted, cells-add shop one other take passes);
      few_cells = few-add shop one other take passes begun.few_cells gone_on.few_cells;
    }

-- the order of a search that continues
found_order : (shop : FlowShop) (one other take passes seed : ℕ) (between order : List ℕ)
    → between ≡ searched shop one take passes seed
    → order ≡ improved shop between one other take passes seed
    → order ≡ searched shop (one + other) take passes seed
found_order shop one other take passes seed between order begun gone_on =
    let parts = parts_law shop (neh_order shop) 0 one other take passes seed in
    let start = begun ∙ searched_law shop one take passes seed in
    rw (searched_law shop (one + other) take passes seed, parts, ← start, zero-add) gone_on

pub longer_search_law : LongerSearchLaw
longer_search_law shop one other take passes seed between order between_span span cells more begun gone_on = record {
  found = found_order shop one other take passes seed between order begun.found gone_on.found;
  all = gone_on.all;
  distinct = gone_on.distinct;
  spanned = gone_on.spanned;
  no_longer = omega (arith, gone_on.no_longer, begun.spanned, begun.no_longer);
  counted = rw (begun.counted, gone_on.counted, cells-add shop one other take passes) (omega arith);
  few_cells = few-add shop one other take passes begun.few_cells gone_on.few_cells;
}

-- NEH alone is a search of no rounds
neh_found : (shop : FlowShop) (take passes seed : ℕ) (order : List ℕ) (span cells : ℕ) → IsNeh shop order span cells
    → IsFound shop 0 take passes seed order span cells
neh_found shop take passes seed order span cells neh = record {
  found = neh.found;
  all = neh.all;
  distinct = neh.distinct;
  spanned = neh.spanned;
  no_longer = rw (← neh.found) (omega (arith, neh.spanned));
  counted = omega (arith, neh.counted);
  few_cells = omega arith;
}

pub found_after : (shop : FlowShop) (rounds take passes seed : ℕ) (start order : List ℕ)
    (start_span span cells more : ℕ) → IsNeh shop start start_span cells
    → IsImproved shop start 0 rounds take passes seed order span more
    → IsFound shop rounds take passes seed order span (cells + more)
found_after shop rounds take passes seed start order start_span span cells more neh gone_on = rw zero-add at
    (longer_search_law shop 0 rounds take passes seed start order start_span span cells more
    (neh_found shop take passes seed start start_span cells neh) gone_on)
