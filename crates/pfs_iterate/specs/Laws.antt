-- Laws of the rounds.
use Rattle.std.specs.Prelude.{◌≡◌, ℕ, ◌+◌, ◌≤◌, List, [], ◌∷◌, ◌++◌, length, insert}
use Rattle.pfs_base.specs.FlowShop.{FlowShop}
use Rattle.pfs_base.specs.Heads.{head_of}
use Rattle.pfs_insert.specs.Insertion.{best_place}
use Rattle.pfs_search.specs.Greedy.{after_round as greedy_round}
use Rattle.pfs_search.specs.Neh.{with_jobs}
use Rattle.pfs_iterate.specs.Alone.{by_ties, with_more}
use Rattle.pfs_iterate.specs.declared.options.Options.{Options}
use Rattle.pfs_iterate.specs.declared.options.TheConstants.{TIES_FIRST}
use Rattle.pfs_iterate.specs.Iterated.{State, after_round, after_rounds, chosen, count_to}

-- rounds in two parts have the state that all of them have at once
abbrev pub PartsLaw : Type 0
PartsLaw = (shop : FlowShop) (options : Options) (accept stay : List ℕ) (first one other : ℕ) (state : State)
    → after_rounds shop options accept stay first (one + other) state
    ≡ after_rounds shop options accept stay (first + one) other (after_rounds shop options accept stay first one state)

-- where all jobs may move, with no passes, the rule TIES_FIRST and an empty table a round's current order is the one that a round of
-- `pfs_search` has, without passes, from the words that remove jobs
abbrev pub GreedyLaw : Type 0
GreedyLaw = (shop : FlowShop) (options : Options) (state : State) (word : ℕ) (removing others : List ℕ)
    → options.held ≡ 0 → options.partial ≡ 0 → options.passes ≡ 0 → options.ties ≡ TIES_FIRST → length removing ≡ options.take
    → (after_round shop options [] [] state (word ∷ (removing ++ others))).current
    ≡ greedy_round shop 0 state.current removing

-- no machine ends earlier than before where a job is inserted before another one, or at the end, so a total delay is
-- not negative
abbrev pub DelayLaw : Type 0
DelayLaw = (shop : FlowShop) (jobs : List ℕ) (job place machine : ℕ) → place ≤ length jobs
    → head_of shop jobs (count_to jobs place) machine
    ≤ head_of shop (insert jobs place job) (count_to jobs place + 1) machine

-- by TIES_FIRST the chosen place is the best place, and more jobs are inserted as NEH inserts its ranking
abbrev pub FirstLaw : Type 0
FirstLaw = (shop : FlowShop) (jobs more : List ℕ) (job : ℕ)
    → (chosen shop (by_ties TIES_FIRST) jobs job ≡ best_place shop jobs job)
    × (with_more shop TIES_FIRST jobs more ≡ with_jobs shop jobs more)
