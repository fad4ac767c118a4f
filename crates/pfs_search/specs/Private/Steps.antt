-- What searches and their steps require, and what they do.
use Rattle.std.specs.Prelude.{◌≡◌, ℕ, ◌+◌, ◌<◌, ◌≤◌, ◌++◌, Bool, false, List, length, IsOk, MatchResult, Result}
use Rattle.std.specs.Prelude.{map, vec_len, vec_capacity}
use Rattle.std.specs.Global.{Vec}
use Rattle.std.specs.List.{All}
use Rattle.std.specs.declared.cmp.Reverse.{Reverse}
use Rattle.rand_core.specs.Stream.{Stream}
use Rattle.pfs_base.specs.FlowShop.{FlowShop, total_of}
use Rattle.pfs_base.specs.Paths.{makespan}
use Rattle.pfs_order.specs.Sequence.{IsSequence, Sequence, all_jobs}
use Rattle.pfs_insert.specs.Inserter.{Counts, Fits, Sizes}
use Rattle.pfs_search.specs.Greedy.{jobs_left, jobs_taken, stream_after, words_of}
use Rattle.pfs_search.specs.Ranking.{ranking}
use Rattle.pfs_search.specs.declared.fault.SearchFault.{SearchFault}
use Rattle.pfs_search.specs.declared.fault.SearchFault.TheVariants.{Memory}

-- ---- steps over a sequence

-- a sequence of `count` jobs, and its makespan
pub record HasSpan (shop : FlowShop) (jobs : List ℕ) (count span : ℕ) : Type 0 where
  pub count_is : length jobs ≡ count
  pub span_is : span ≡ makespan shop jobs

-- a sequence is the one that a step of a search has to make (`made`), has `count` jobs, and has this makespan
pub record IsBuilt (shop : FlowShop) (jobs made : List ℕ) (count span : ℕ) : Type 0 where
  pub jobs_are : jobs ≡ made
  pub has_span : HasSpan shop jobs count span

-- the shop is the same as before, and an inserter of these sizes and a sequence made for `size` jobs fit it
pub record StillFits (before after : FlowShop) (inserter : Sizes) (size : ℕ) : Type 0 where
  pub shop : after ≡ before
  pub fits : Fits after inserter size

-- what a step of a search does: its cells are counted, it succeeds if the inserter can't fail, and all sizes still fit
pub record Steps {A E : Type 0} (result : Result A E) (can_fail : Bool) (before after cost : ℕ) (old new : FlowShop)
    (inserter : Sizes) (size : ℕ) : Type 0 where
  pub cells : Counts result before after cost
  pub succeeds : can_fail ≡ false → IsOk result
  pub still : StillFits old new inserter size

-- an inserter and a sequence fit a shop, and some jobs can be inserted one after another: no job occurs twice
pub record CanInsertAll (shop : FlowShop) (inserter : Sizes) (seq : Sequence) (jobs : List ℕ) : Type 0 where
  pub fits : Fits shop inserter seq.size
  pub some : 1 ≤ length jobs
  pub together : IsSequence seq.size (jobs ++ seq.jobs)

-- an inserter and a sequence fit a shop, and the sequence has all its jobs and this makespan
pub record CanPass (shop : FlowShop) (inserter : Sizes) (seq : Sequence) (span : ℕ) : Type 0 where
  pub fits : Fits shop inserter seq.size
  pub has_span : HasSpan shop seq.jobs shop.jobs span

-- an inserter and a sequence fit a shop, and the sequence has all its jobs, of which `job` is one
pub record CanMove (shop : FlowShop) (inserter : Sizes) (seq : Sequence) (job : ℕ) : Type 0 where
  pub fits : Fits shop inserter seq.size
  pub full : length seq.jobs ≡ shop.jobs
  pub job_is : job < shop.jobs

-- ---- the jobs that a round removes, and the ranking

-- the next `count` words of a stream, and the stream after them
pub record AreNextWords (count : ℕ) (before after : Stream) (drawn : List ℕ) : Type 0 where
  pub words_are : drawn ≡ words_of count before
  pub stream_is : after ≡ stream_after count before

-- some jobs were removed from a sequence of `count` distinct jobs: these and those that are left
pub record AreApart (size count : ℕ) (removed left : List ℕ) : Type 0 where
  pub together : IsSequence size (removed ++ left)
  pub count_is : length removed + length left ≡ count

-- a sequence can become a copy of an order of distinct jobs, and each word can remove one of them
pub record CanTake (order seq : Sequence) (words : List ℕ) : Type 0 where
  pub sizes : seq.size ≡ order.size
  pub distinct : IsSequence order.size order.jobs
  pub few : length words ≤ length order.jobs

-- a list that was written over has `count` items, and room for as many as before
pub record HasKept {A : Type 0} (old new : Vec A) (count : ℕ) : Type 0 where
  pub count_is : vec_len new ≡ count
  pub room : vec_capacity old ≤ vec_capacity new

-- the jobs that words removed from an order, in a list that was written over, and those that are left
pub record AreTaken (order : Sequence) (words : List ℕ) (old new : Vec ℕ) (left : Sequence) : Type 0 where
  pub left_is : left ≡ record { size = order.size; jobs = jobs_left order.jobs words }
  pub taken_are : new.items ≡ jobs_taken order.jobs words
  pub apart : AreApart order.size (length order.jobs) new.items left.jobs
  pub kept : HasKept old new (length words)

-- two lists have room for `count` items
pub record HaveRoom {A B : Type 0} (count : ℕ) (one : Vec A) (other : Vec B) : Type 0 where
  pub one_room : count ≤ vec_capacity one
  pub other_room : count ≤ vec_capacity other

-- the ranking of all jobs, in a list that was written over
pub record IsRanked (shop : FlowShop) (old new : Vec ℕ) : Type 0 where
  pub ranking_is : new.items ≡ ranking shop
  pub sequence : IsSequence shop.jobs new.items
  pub kept : HasKept old new shop.jobs

-- all jobs by increasing number, each with its total
pub record AreTotals (shop : FlowShop) (listed : List (Reverse ℕ × ℕ)) : Type 0 where
  pub jobs_are : map (λ entry. entry.1) listed ≡ all_jobs shop.jobs
  pub totals_are : All (λ entry. entry.0.0 ≡ total_of shop entry.1) listed

-- ---- whole searches

-- `Holds` of what a search returns; where it fails, memory allocation failed before its first round
abbrev pub UnlessMemory : {A : Type 0} → Result A SearchFault → (A → Type 0) → Type 0
UnlessMemory result Holds = MatchResult result Holds (λ fault. fault ≡ Memory 0)
