-- Insertions and passes outside of rounds.
use Rattle.std.specs.Prelude.{◌≡◌, ℕ, ◌+◌, ◌≤◌, List, length, fold}
use Rattle.pfs_base.specs.FlowShop.{FlowShop}
use Rattle.pfs_base.specs.Paths.{makespan}
use Rattle.pfs_insert.specs.Insertion.{makespan_with}
use Rattle.pfs_order.specs.Sequence.{IsSequence}
use Rattle.pfs_iterate.specs.Iterated.{chosen, settled, put}
use Rattle.pfs_iterate.specs.declared.options.Options.{Options}

-- the options with this rule for equally good places and no held jobs
abbrev pub by_ties : ℕ → Options
by_ties ties = record { seed = 0; take = 0; held = 0; first = 0; count = 0; partial = 0; passes = 0; ties = ties }

-- the chosen place of a job in a sequence, and the makespan with the job there
pub record IsChosen (shop : FlowShop) (ties : ℕ) (jobs : List ℕ) (job place span : ℕ) : Type 0 where
  pub place_is : place ≡ chosen shop (by_ties ties) jobs job
  pub within : place ≤ length jobs
  pub span_is : span ≡ makespan_with shop jobs job place

-- a sequence with more jobs, each put at its chosen place in turn
abbrev pub with_more : FlowShop → ℕ → List ℕ → List ℕ → List ℕ
with_more shop ties sequence more = fold (put shop (by_ties ties)) sequence more

-- this sequence after passes over a list of jobs, until one makes it no shorter, and the makespan
pub record IsBuilt (shop : FlowShop) (ties : ℕ) (sequence more list : List ℕ) (passes : ℕ) (order : List ℕ) (span : ℕ)
    : Type 0 where
  pub found : order ≡ settled shop (by_ties ties) list passes (with_more shop ties sequence more)
  -- it has each job once
  pub long : length order ≡ length sequence + length more
  pub distinct : IsSequence shop.jobs order
  pub spanned : span ≡ makespan shop order
  -- no longer than before the passes
  pub no_longer : span ≤ makespan shop (with_more shop ties sequence more)
