-- Iterated greedy that also accepts longer orders, as a function of its words.
use Rattle.std.specs.Prelude.{ℕ, zero, suc, ◌+◌, ◌-◌, Bool, true, not, List, [], ◌∷◌, ◌++◌, length, fold, filter, min, sum_by}
use Rattle.std.specs.Prelude.{nat_le, nat_lt, nat_eq, slice_index, insert, remove, if◌then◌else◌, take as front, drop}
use Rattle.std.specs.List.{list_all, list_any, position_or_len, range_with_len, slice_index_or}
use Rattle.pfs_base.specs.FlowShop.{FlowShop}
use Rattle.pfs_base.specs.Heads.{head_of}
use Rattle.pfs_base.specs.Lists.{below}
use Rattle.pfs_base.specs.Paths.{makespan}
use Rattle.pfs_order.specs.Sequence.{all_jobs}
use Rattle.pfs_insert.specs.Insertion.{makespan_with}
use Rattle.pfs_search.specs.Greedy.{jobs_taken, place_of}
use Rattle.pfs_search.specs.Solution.{words_after}
use Rattle.pfs_iterate.specs.declared.options.Options.{Options}
use Rattle.pfs_iterate.specs.declared.options.TheConstants.{TIES_IDLE}

-- when the first `count` jobs of a sequence are done, summed over the machines
abbrev pub ends : FlowShop → List ℕ → ℕ → ℕ
ends shop jobs count = sum_by (head_of shop jobs count) (below shop.machines)

-- the number of jobs up to the one at a place, and of all jobs at the place after the last one
abbrev pub count_to : List ℕ → ℕ → ℕ
count_to jobs place = min (place + 1) (length jobs)

-- how much later, summed over the machines, the job at a place ends if another job is inserted before it; at the place
-- after the last job, how much later the sequence ends
abbrev pub total_delay : FlowShop → List ℕ → ℕ → ℕ → ℕ
total_delay shop jobs job place =
    ends shop (insert jobs place job) (count_to jobs place + 1) - ends shop jobs (count_to jobs place)

-- what decides between places with equal makespans: the total delay, or nothing
abbrev pub tie_break : FlowShop → ℕ → List ℕ → ℕ → ℕ → ℕ
tie_break shop ties jobs job place = if nat_eq ties TIES_IDLE then total_delay shop jobs job place else 0

-- the first of the numbers from `from` on and below `count` whose value is at most that of each of these and, of those
-- with this value, whose `tie` is at most that of each
abbrev pub first_best : (ℕ → ℕ) → (ℕ → ℕ) → ℕ → ℕ → ℕ
first_best value tie from count =
    let places = range_with_len from (count - from) in
    position_or_len (λ place. list_all (λ other.
    if nat_eq (value place) (value other) then nat_le (tie place) (tie other) else nat_le (value place) (value other))
    places) places + from

-- of the places from `held` on that give the least makespan, the first with the least total delay or, by TIES_FIRST,
-- the first
abbrev pub chosen : FlowShop → Options → List ℕ → ℕ → ℕ
chosen shop options jobs job =
    first_best (makespan_with shop jobs job) (tie_break shop options.ties jobs job) options.held (length jobs + 1)

-- the sequence with a job inserted there
abbrev pub put : FlowShop → Options → List ℕ → ℕ → List ℕ
put shop options jobs job = insert jobs (chosen shop options jobs job) job

-- the sequence after a job that is at a place from `held` on has left it for the chosen one
abbrev pub moved : FlowShop → Options → List ℕ → ℕ → List ℕ
moved shop options jobs job =
    if list_any (nat_eq job) (drop options.held jobs)
    then put shop options (filter (λ other. not (nat_eq other job)) jobs) job
    else jobs

-- the sequence after passes over a list of jobs, until one makes it no shorter
abbrev pub settled : FlowShop → Options → List ℕ → ℕ → List ℕ → List ℕ
settled shop options list zero jobs = jobs
settled shop options list (suc passes) jobs =
    let next = fold (moved shop options) jobs list in
    if nat_lt (makespan shop next) (makespan shop jobs) then settled shop options list passes next else next

-- whether a job may move: it has no mark, which is a number above 0 at its place in `stay`
abbrev pub is_free : List ℕ → ℕ → Bool
is_free stay job = nat_eq (slice_index_or stay job 0) 0

-- the jobs behind the first `held` that may move
abbrev pub movable : ℕ → List ℕ → List ℕ → List ℕ
movable held stay order = filter (is_free stay) (drop held order)

-- the place of the job that has this number, from 0, among those that may move
abbrev pub place_among : (ℕ → Bool) → List ℕ → ℕ → ℕ
place_among free [] number = number
place_among free (job ∷ jobs) zero = if free job then 0 else suc (place_among free jobs 0)
place_among free (job ∷ jobs) (suc number) = suc (place_among free jobs (if free job then number else suc number))

-- the jobs left after each word has removed the one that it names among those that may move
abbrev pub left_among : (ℕ → Bool) → List ℕ → List ℕ → List ℕ
left_among free jobs words =
    fold (λ rest word. remove rest (place_among free rest (place_of (filter free rest) word))) jobs words

-- the steps of a round by its words after the first: its first `take` words remove jobs that may move
abbrev pub removed : Options → List ℕ → List ℕ → List ℕ → List ℕ
removed options stay order words = jobs_taken (movable options.held stay order) (front options.take words)

-- the others name all jobs in the order in which a pass visits them, but for those that stay
abbrev pub visits : FlowShop → Options → List ℕ → List ℕ → List ℕ
visits shop options stay words = filter (is_free stay) (jobs_taken (all_jobs shop.jobs) (drop options.take words))

-- the sequence that is left, after passes
abbrev pub partial_sequence : FlowShop → Options → List ℕ → List ℕ → List ℕ → List ℕ
partial_sequence shop options stay order words = settled shop options (visits shop options stay words) options.partial
    (front options.held order ++ left_among (is_free stay) (drop options.held order) (front options.take words))

-- the order with the removed jobs inserted into it one after another
abbrev pub constructed : FlowShop → Options → List ℕ → List ℕ → List ℕ → List ℕ
constructed shop options stay order words =
    fold (put shop options) (partial_sequence shop options stay order words) (removed options stay order words)

-- the order that a round makes: the constructed one after passes
abbrev pub order_of_round : FlowShop → Options → List ℕ → List ℕ → List ℕ → List ℕ
order_of_round shop options stay order words = settled shop options (visits shop options stay words) options.passes
    (constructed shop options stay order words)

-- whether a word accepts a new makespan: one that is not greater than the old one always, one that is greater by d with
-- the chance accept[d] of 2 ^ 32, and none beyond the end of the table
abbrev pub is_accepted : List ℕ → ℕ → ℕ → ℕ → Bool
is_accepted accept old new word =
    if nat_le new old then true else nat_lt word (slice_index_or accept (new - old) 0)

-- the current order, and the shortest order so far, of equally short ones the first
pub record State : Type 0 where
  pub current : List ℕ
  pub best : List ℕ

-- the state after a round with these words
abbrev pub after_round : FlowShop → Options → List ℕ → List ℕ → State → List ℕ → State
after_round shop options accept stay state words =
    let new = order_of_round shop options stay state.current (drop 1 words) in
    let span = makespan shop new in
    record {
      current = if is_accepted accept (makespan shop state.current) span (slice_index words 0)
          then new else state.current;
      best = if nat_lt span (makespan shop state.best) then new else state.best;
    }

-- the words of a round: a round has n + take + 1 words of the seed, and they follow those of the round before
abbrev pub words_of_round : FlowShop → Options → ℕ → List ℕ
words_of_round shop options round = words_after options.seed round 1 (shop.jobs + options.take + 1)

-- the state after a number of rounds from round `first` on, counted from 0
abbrev pub after_rounds : FlowShop → Options → List ℕ → List ℕ → ℕ → ℕ → State → State
after_rounds shop options accept stay first zero state = state
after_rounds shop options accept stay first (suc count) state =
    after_rounds shop options accept stay (first + 1) count
    (after_round shop options accept stay state (words_of_round shop options first))
