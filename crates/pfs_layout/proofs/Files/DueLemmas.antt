-- The numbers that are due: by index, from a problem and back, and their prefixes.
use Rattle.pfs_layout.proofs.Words.{arith, ◌≡◌, ℕ, ◌≤◌, true, List, All, nat_tests, LONGEST_TIME, limits, Problem, Size}
use Rattle.pfs_layout.proofs.Words.{size_of, is_within_limits, IsInstance, ◌+◌, ◌*◌, ◌/◌, ◌%◌, ◌<◌, [], ◌∷◌, length}
use Rattle.pfs_layout.proofs.Words.{get_or, refl, ◌∙◌, inl, inr, cases_eq, eq-eqb, elements, length-map-range_with_len}
use Rattle.pfs_layout.proofs.Words.{mod-mul-add, mul-add-lt, FlowShop, time_of, Layout, Taillard, OrLib, Due}
use Rattle.pfs_layout.proofs.Words.{is_due, due_at, are_due, due_row, due, due_count, place_of_time}
use Rattle.pfs_layout.proofs.Words.{Bool, sym, same_number_lists, Block, instance_of, ◌++◌, drop, length-append, begun}
use Rattle.pfs_layout.proofs.Words.{list_all-append, enumerate_from-append, and_parts}
use Rattle.std.proofs.lemmas.List.Sums.{AllPass-from_list_all, list_all-from_AllPass}
use Rattle.pfs_base.specs.declared.limits.TheConstants.{GREATEST_NOTE}
use Rattle.std.specs.List.{enumerate_from}
use Rattle.std.proofs.lemmas.List.FromFn.{get_or-enumerate_from, length-enumerate_from}
use Rattle.std.proofs.Common.{length-drop}
use Rattle.pfs_base.specs.FlowShop.{AreSizes}
use Rattle.std.proofs.lemmas.List.{get_or_past, get_or_default}
use Rattle.pfs_layout.proofs.Tables.{length-rows, rows_at, at_row, table_at, length-table, same_table, all_table}
use Rattle.pfs_layout.specs.Laws.{BeginDue, DueFronts}

-- ---- sizes within the limits

-- what `is_within_limits` means
pub record AreWithin (size : Size) : Type 0 where
  pub sizes : AreSizes limits size.jobs size.machines
  pub seed : size.notes.seed ≤ GREATEST_NOTE
  pub upper : size.notes.upper ≤ GREATEST_NOTE
  pub lower : size.notes.lower ≤ GREATEST_NOTE

pub size_within : (size : Size) → is_within_limits size ≡ true → AreWithin size
size_within size e = grind (arith, nat_tests)

-- ---- the numbers that are due, by index

-- how many numbers a row has
abbrev pub row_width : Layout → FlowShop → ℕ
row_width Taillard shop = shop.jobs
row_width OrLib shop = shop.machines * 2

-- a machine and its time
abbrev pub pairs_of : FlowShop → ℕ → ℕ → List ℕ
pairs_of shop job machine = machine ∷ time_of shop job machine ∷ []

pub length_due_row : (layout : Layout) (shop : FlowShop) (r : ℕ)
    → length (due_row layout shop r) ≡ row_width layout shop
unfolding due_row
length_due_row Taillard shop r = length-map-range_with_len (λ job. time_of shop job r) 0 shop.jobs
length_due_row OrLib shop r = length-rows (pairs_of shop r) 2 (λ i. refl) shop.machines

-- their count is `due_count`
pub length-due : (layout : Layout) (problem : Problem)
    → length (due layout problem.shop) ≡ due_count layout (size_of problem)
unfolding due
length-due Taillard problem =
    length-rows (due_row Taillard problem.shop) _ (length_due_row Taillard problem.shop) problem.shop.machines
    ∙ grind arith
length-due OrLib problem =
    length-rows (due_row OrLib problem.shop) _ (length_due_row OrLib problem.shop) problem.shop.jobs ∙ grind arith

-- in the OR-Library's layout: a machine's number, and the time of a job on it
pub pair_at : (shop : FlowShop) (job machine c d : ℕ) → job < shop.jobs → machine < shop.machines → c < 2
    → get_or (due OrLib shop) (job * (shop.machines * 2) + (machine * 2 + c)) d ≡ get_or (pairs_of shop job machine) c d
unfolding due due_row
pair_at shop job machine c d j m l =
    rows_at (due_row OrLib shop) (shop.machines * 2) (length_due_row OrLib shop) shop.jobs job (machine * 2 + c) d j
    (omega arith)
    ∙ rows_at (pairs_of shop job) 2 (λ i. refl) shop.machines machine c d m l

-- each time is at its place
pub time_due : (layout : Layout) (problem : Problem) (job machine : ℕ) → job < problem.shop.jobs
    → machine < problem.shop.machines
    → get_or (due layout problem.shop) (place_of_time layout (size_of problem) job machine) 0
    ≡ time_of problem.shop job machine
unfolding due due_row
time_due Taillard problem job machine j m =
    table_at (λ machine job. time_of problem.shop job machine) _ _ machine job 0 m j
time_due OrLib problem job machine j m = grind (arith, pair_at problem.shop job machine 1 0)

-- ---- what is due at a place

pub place_within : (layout : Layout) (size : Size) (job machine : ℕ) → job < size.jobs → machine < size.machines
    → place_of_time layout size job machine < due_count layout size
place_within layout size job machine j m = grind (arith, mul-add-lt)

pub due_time : (layout : Layout) (size : Size) (job machine : ℕ) → job < size.jobs → machine < size.machines
    → due_at layout size (place_of_time layout size job machine) ≡ Due.Time
unfolding due_at
due_time layout size job machine j m = grind (arith, nat_tests, place_within)

-- a place is that of a time, or that of a machine's number
pub data PlaceIs (layout : Layout) (problem : Problem) (k : ℕ) : Type 0 where
  a_time : (job machine : ℕ) → job < problem.shop.jobs → machine < problem.shop.machines
      → k ≡ place_of_time layout (size_of problem) job machine → PlaceIs layout problem k
  a_number : (machine : ℕ) → due_at layout (size_of problem) k ≡ Due.Machine machine
      → get_or (due layout problem.shop) k 0 ≡ machine → PlaceIs layout problem k

pub place_is : (layout : Layout) (problem : Problem) (k : ℕ) → k < due_count layout (size_of problem)
    → PlaceIs layout problem k
unfolding due_at
place_is Taillard problem k h =
    let at = at_row k problem.shop.machines problem.shop.jobs (grind (arith, h)) in
    a_time at.column at.row at.column_in at.row_in at.is
place_is OrLib problem k h =
    let m : ℕ = problem.shop.machines in
    let at = at_row (k / 2) problem.shop.jobs m (omega arith) in
    elim (cases_eq (k % 2) 0) [
      | inl even ↦
          a_number at.column (grind (arith, nat_tests, at.is, mod-mul-add at.row m at.column))
          (grind (arith, at.is, pair_at problem.shop at.row at.column 0 0))
      | inr odd ↦ a_time at.row at.column at.row_in at.column_in (omega (arith, at.is))
    ]

-- ---- numbers that are due pass the check

-- the times are within the limit
pub short_at : (times : List ℕ) → All (λ time. time ≤ LONGEST_TIME) times → (k : ℕ) → get_or times k 0 ≤ LONGEST_TIME
short_at times short k = grind (arith, elements, get_or_past times k 0)

-- numbers pass if each is what is due at its place
pub are_due_by_place : (layout : Layout) (size : Size) (numbers : List ℕ)
    → ((k : ℕ) → k < length numbers → is_due (due_at layout size k) (get_or numbers k 0) ≡ true)
    → are_due layout size numbers ≡ true
unfolding are_due
are_due_by_place layout size numbers each =
    list_all-from_AllPass (λ placed. is_due (due_at layout size placed.0) placed.1) (enumerate_from 0 numbers) (λ k d h.
    grind (arith, each, length-enumerate_from {X = ℕ}, get_or-enumerate_from {X = ℕ}, get_or_default {X = ℕ}))

pub due_passes : (layout : Layout) (problem : Problem) → All (λ time. time ≤ LONGEST_TIME) problem.shop.times
    → are_due layout (size_of problem) (due layout problem.shop) ≡ true
due_passes layout problem within = are_due_by_place layout (size_of problem) (due layout problem.shop) (λ k h.
    elim (place_is layout problem k (omega (arith, length-due layout problem))) [
      | a_time job machine j m place ↦
          let short = short_at problem.shop.times within (job * problem.shop.machines + machine) in
          grind (arith, nat_tests, place, due_time, time_due layout problem job machine)
      | a_number machine wanted is ↦ rw (wanted, is) (eq-eqb machine machine refl)
    ])

-- ---- the times of a complete block

-- the number at the place of a job's time on a machine
abbrev pub listed_time : Layout → Size → List ℕ → ℕ → ℕ → ℕ
listed_time layout size numbers job machine = get_or numbers (place_of_time layout size job machine) 0

pub length-times : (layout : Layout) (block : Block)
    → length (instance_of layout block).shop.times ≡ block.size.jobs * block.size.machines
unfolding instance_of
length-times layout block =
    length-table (listed_time layout block.size block.numbers) block.size.jobs block.size.machines

-- ---- from a problem to its due numbers and back

module _ (layout : Layout) (problem : Problem) where
  -- the block of a problem
  abbrev pub due_block : Block
  due_block = record { size = size_of problem; numbers = due layout problem.shop }

  pub instance_due : length problem.shop.times ≡ problem.shop.jobs * problem.shop.machines
      → instance_of layout due_block ≡ problem
  unfolding instance_of
  instance_due every =
      let number : ℕ → ℕ → ℕ = listed_time layout due_block.size due_block.numbers in
      let times = same_table number problem.shop.jobs problem.shop.machines problem.shop.times
      every (λ job machine j m. sym (time_due layout problem job machine j m)) in
      rw (← times)

-- ---- from a complete block's numbers to a problem and back

-- each of the numbers is what is due at its place
pub due_number : (layout : Layout) (size : Size) (numbers : List ℕ) (k : ℕ) → are_due layout size numbers ≡ true
    → k < length numbers → is_due (due_at layout size k) (get_or numbers k 0) ≡ true
unfolding are_due
due_number layout size numbers k all h =
    let test : ℕ × ℕ → Bool = λ placed. is_due (due_at layout size placed.0) placed.1 in
    let placed = AllPass-from_list_all test (enumerate_from 0 numbers) all k (0, 0) in
    grind (arith, placed, length-enumerate_from {X = ℕ}, get_or-enumerate_from {X = ℕ})

module _ (layout : Layout) (block : Block) (all : are_due layout block.size block.numbers ≡ true)
    (full : length block.numbers ≡ due_count layout block.size) where
  -- a complete block's numbers are those that are due for its problem
  pub due_instance : due layout (instance_of layout block).shop ≡ block.numbers
  unfolding instance_of
  due_instance =
      let count = length-due layout (instance_of layout block) in
      let number = table_at (listed_time layout block.size block.numbers) block.size.jobs block.size.machines in
      same_number_lists (due layout (instance_of layout block).shop) block.numbers (count ∙ sym full) (λ k h.
      elim (place_is layout (instance_of layout block) k (omega (arith, count))) [
        | a_time job machine j m place ↦
            rw place (time_due layout (instance_of layout block) job machine j m ∙ number job machine 0 j m)
        | a_number machine wanted is ↦
            grind (arith, nat_tests, is, wanted, full, count, due_number layout block.size block.numbers k all)
      ])

  -- that problem is within the limits
  pub times_short : All (λ time. time ≤ LONGEST_TIME) (instance_of layout block).shop.times
  unfolding instance_of
  times_short = all_table (listed_time layout block.size block.numbers) block.size.jobs block.size.machines
      (λ time. time ≤ LONGEST_TIME) (λ job machine j m.
      let place : ℕ = place_of_time layout block.size job machine in
      let within = place_within layout block.size job machine j m in
      let time = due_time layout block.size job machine j m in
      grind (arith, nat_tests, full, due_number layout block.size block.numbers place all))

  pub instance_within : is_within_limits block.size ≡ true → IsInstance limits (instance_of layout block)
  unfolding instance_of
  instance_within size = grind (arith, size_within block.size size, length-times layout block, times_short)

-- ---- numbers that pass the check begin what is due for some problem

-- the first of numbers that pass the check pass it too
pub are_due_front : (layout : Layout) (size : Size) (xs ys : List ℕ) → are_due layout size (xs ++ ys) ≡ true
    → are_due layout size xs ≡ true
unfolding are_due
are_due_front layout size xs ys e = (and_parts _ _ (rw (enumerate_from-append, list_all-append) at e)).0

-- no more numbers than are due pass it
pub no_more_than_due : (layout : Layout) (size : Size) (numbers : List ℕ) → are_due layout size numbers ≡ true
    → length numbers ≤ due_count layout size
unfolding due_at
no_more_than_due layout size numbers all =
    grind (arith, nat_tests, due_number layout size numbers (due_count layout size) all)

-- what is due for the problem of this size whose times are all 0
abbrev idle_due : Layout → Size → List ℕ
idle_due layout size = due layout (instance_of layout (begun size)).shop

-- the numbers, and after them what is due for that problem
abbrev filled : Layout → Size → List ℕ → List ℕ
filled layout size numbers = numbers ++ drop (length numbers) (idle_due layout size)

module _ (layout : Layout) (size : Size) (numbers : List ℕ) (all : are_due layout size numbers ≡ true) where
  length-filled : length (filled layout size numbers) ≡ due_count layout size
  unfolding instance_of
  length-filled =
      let idle = length-due layout (instance_of layout (begun size)) in
      simp (length-append, length-drop) (omega (arith, no_more_than_due layout size numbers all))

  filled_passes : are_due layout size (filled layout size numbers) ≡ true
  unfolding instance_of
  filled_passes = are_due_by_place layout size (filled layout size numbers) (λ k h.
      let idle_passes = due_passes layout (instance_of layout (begun size)) (all_table (λ job machine. 0) size.jobs
      size.machines (λ time. time ≤ LONGEST_TIME) (λ job machine j m. omega arith)) in
      grind (arith, elements, length-filled, length-due layout (instance_of layout (begun size)), due_number))

  begin_due : BeginDue layout size numbers
  unfolding instance_of
  begin_due =
      let block : Block = record { size = size; numbers = filled layout size numbers } in
      record {
        problem = instance_of layout block;
        rest = drop (length numbers) (idle_due layout size);
        of_size = refl;
        every_time = length-times layout block;
        short_times = times_short layout block filled_passes length-filled;
        begin = due_instance layout block filled_passes length-filled;
      }

pub due_fronts : DueFronts
due_fronts layout size numbers = (
  λ all. begin_due layout size numbers all,
  λ b. are_due_front layout size numbers b.rest (rw (b.begin, b.of_size) at
      (due_passes layout b.problem b.short_times)),
)
