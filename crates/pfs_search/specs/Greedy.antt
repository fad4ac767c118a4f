-- Iterated greedy (Ruiz and Stützle 2007): rounds that remove some jobs and insert each again at its best place. The
-- words are random words, which choose the jobs to remove.
use Rattle.std.specs.Prelude.{◌≡◌, ℕ, zero, suc, ◌%◌, ◌≤◌, not, List, [], ◌∷◌, length, fold, filter}
use Rattle.std.specs.Prelude.{Contains, nat_le, nat_eq, slice_index, remove, if◌then◌else◌}
use Rattle.std.specs.Prelude.{take as front, drop}
use Rattle.std.specs.List.{All}
use Rattle.rand_core.specs.Stream.{Stream, next_u32}
use Rattle.pfs_base.specs.FlowShop.{FlowShop}
use Rattle.pfs_base.specs.Paths.{makespan}
use Rattle.pfs_order.specs.Sequence.{IsSequence, all_jobs}
use Rattle.pfs_insert.specs.Insertion.{with_job}
use Rattle.pfs_search.specs.Neh.{with_jobs}

-- the place in a list of jobs that a word names, counted from 0: the word modulo the number of jobs
abbrev pub place_of : List ℕ → ℕ → ℕ
place_of jobs word = word % length jobs

-- the jobs that the random words remove one after another, each from the jobs left, in the order of their removal
abbrev pub jobs_taken : List ℕ → List ℕ → List ℕ
jobs_taken jobs [] = []
jobs_taken jobs (word ∷ words) =
    slice_index jobs (place_of jobs word) ∷ jobs_taken (remove jobs (place_of jobs word)) words

-- the jobs left after the random words have removed theirs, in their order
abbrev pub jobs_left : List ℕ → List ℕ → List ℕ
jobs_left jobs words = fold (λ rest word. remove rest (place_of rest word)) jobs words

-- the order after the removed jobs are inserted again, in the order of their removal, each at its best place
abbrev pub rebuilt : FlowShop → List ℕ → List ℕ → List ℕ
rebuilt shop jobs words = with_jobs shop (jobs_left jobs words) (jobs_taken jobs words)

-- the order after a job is removed and inserted at its best place
abbrev pub moved : FlowShop → List ℕ → ℕ → List ℕ
moved shop jobs job = with_job shop (filter (λ other. not (nat_eq other job)) jobs) job

-- the order after a pass over a list: each job of the list in turn is removed and inserted at its best place
abbrev pub pass_over : FlowShop → List ℕ → List ℕ → List ℕ
pass_over shop list jobs = fold (moved shop) jobs list

-- the order after a number of passes over a list
abbrev pub passes_over : FlowShop → List ℕ → ℕ → List ℕ → List ℕ
passes_over shop list zero jobs = jobs
passes_over shop list (suc passes) jobs = passes_over shop list passes (pass_over shop list jobs)

-- the order after a pass: over all jobs, by increasing number
abbrev pub pass : FlowShop → List ℕ → List ℕ
pass shop jobs = pass_over shop (all_jobs shop.jobs) jobs

-- the order after a number of passes
abbrev pub after_passes : FlowShop → ℕ → List ℕ → List ℕ
after_passes shop passes jobs = passes_over shop (all_jobs shop.jobs) passes jobs

-- the new order where its makespan is at most that of the old one, and else the old one
abbrev pub kept_of : FlowShop → List ℕ → List ℕ → List ℕ
kept_of shop old new = if nat_le (makespan shop new) (makespan shop old) then new else old

-- the order after a round with these words: the jobs are removed and inserted, the passes are made, and only then the
-- makespans are compared
abbrev pub after_round : FlowShop → ℕ → List ℕ → List ℕ → List ℕ
after_round shop passes jobs words = kept_of shop jobs (after_passes shop passes (rebuilt shop jobs words))

-- the order after a number of rounds, each of which removes `take` jobs by the next `take` words
abbrev pub after_rounds : FlowShop → ℕ → ℕ → ℕ → List ℕ → List ℕ → List ℕ
after_rounds shop passes zero take jobs words = jobs
after_rounds shop passes (suc rounds) take jobs words =
    after_rounds shop passes rounds take (after_round shop passes jobs (front take words)) (drop take words)

-- the next words of a stream, of the given number
abbrev pub words_of : ℕ → Stream → List ℕ
words_of zero stream = []
words_of (suc count) stream = let next = next_u32 stream in next.0 ∷ words_of count next.1

-- the stream after a number of words
abbrev pub stream_after : ℕ → Stream → Stream
stream_after zero stream = stream
stream_after (suc count) stream = stream_after count (next_u32 stream).1

-- a pass over an order of all jobs doesn't increase its makespan
abbrev pub PassLaw : Type 0
PassLaw = (shop : FlowShop) (jobs : List ℕ) → IsSequence shop.jobs jobs → length jobs ≡ shop.jobs
    → makespan shop (pass shop jobs) ≤ makespan shop jobs

-- passes over jobs of a sequence don't increase its makespan
abbrev pub PassesLaw : Type 0
PassesLaw = (shop : FlowShop) (list jobs : List ℕ) (passes : ℕ) → IsSequence shop.jobs jobs
    → All (λ job. Contains jobs job) list → makespan shop (passes_over shop list passes jobs) ≤ makespan shop jobs

-- rounds don't increase the makespan of an order, for any words
abbrev pub NoLongerLaw : Type 0
NoLongerLaw = (shop : FlowShop) (passes rounds take : ℕ) (jobs words : List ℕ)
    → makespan shop (after_rounds shop passes rounds take jobs words) ≤ makespan shop jobs
