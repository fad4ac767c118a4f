-- What rounds need and keep.
use Rattle.std.specs.Prelude.{◌≡◌, ℕ, ◌+◌, ◌*◌, ◌≤◌, not, List, filter, length, take}
use Rattle.pfs_base.specs.declared.limits.TheConstants.{MOST_ROUNDS}
use Rattle.pfs_base.specs.FlowShop.{FlowShop}
use Rattle.pfs_base.specs.Paths.{makespan}
use Rattle.pfs_order.specs.Sequence.{IsSequence}
use Rattle.pfs_iterate.specs.Private.Memory.{AreLists, IsWorkFor}
use Rattle.pfs_iterate.specs.Iterated.{after_rounds, is_free}
use Rattle.pfs_iterate.specs.declared.options.Options.{Options}
use Rattle.pfs_iterate.specs.declared.options.TheConstants.{MOST_TIES}
use Rattle.pfs_iterate.specs.declared.iterated.Iterated.{Iterated}

-- the memory of a shop's searches and rounds, with room for the words of a round and for two orders
pub record IsIteratedFor (shop : FlowShop) (iterated : Iterated) : Type 0 where
  pub work : IsWorkFor shop iterated.work
  pub lists : AreLists shop iterated.lists
  pub words : length iterated.words.items ≡ 2 * shop.jobs + 1
  pub current : length iterated.current.order ≡ shop.jobs
  pub best : length iterated.best.order ≡ shop.jobs

-- rounds with these options can be made: they remove at least one job, and only jobs behind the held ones, and
-- there is such a rule for equally good places
pub record CanIterate (shop : FlowShop) (options : Options) : Type 0 where
  pub some : 1 ≤ options.take
  pub few : options.held + options.take ≤ shop.jobs
  pub last : options.first + options.count ≤ MOST_ROUNDS
  pub ties : options.ties ≤ MOST_TIES

-- the jobs that stay, in their order
abbrev pub staying : List ℕ → List ℕ → List ℕ
staying stay jobs = filter (λ job. not (is_free stay job)) jobs

-- an order of all jobs, each once, that begins with the first `held` jobs of another one
pub record IsOrderFrom (shop : FlowShop) (held : ℕ) (old new : List ℕ) : Type 0 where
  pub all : length new ≡ shop.jobs
  pub distinct : IsSequence shop.jobs new
  pub front : take held new ≡ take held old

-- the result of rounds from a current and a best order: both orders and their makespans
pub record IsIterated (shop : FlowShop) (options : Options) (accept stay current best new_current : List ℕ)
    (current_span : ℕ) (new_best : List ℕ) (best_span : ℕ) : Type 0 where
  -- they are those after the rounds
  pub done : record { current = new_current; best = new_best }
      ≡ after_rounds shop options accept stay options.first options.count (record { current = current; best = best })
  -- each is an order of all jobs, and its first `held` jobs are the same as before
  pub current_order : IsOrderFrom shop options.held current new_current
  pub best_order : IsOrderFrom shop options.held best new_best
  -- the jobs that stay have the same order as before, in the best order too if they had it there
  pub current_staying : staying stay new_current ≡ staying stay current
  pub best_staying : staying stay best ≡ staying stay current → staying stay new_best ≡ staying stay current
  pub current_spanned : current_span ≡ makespan shop new_current
  pub best_spanned : best_span ≡ makespan shop new_best
  -- the best order is no longer than before
  pub no_longer : best_span ≤ makespan shop best
