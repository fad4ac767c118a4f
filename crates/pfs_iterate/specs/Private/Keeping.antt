-- What rounds need of the memory that they work with, and what they leave.
use Rattle.std.specs.Prelude.{◌≡◌, ℕ, ◌≤◌, List, length, take}
use Rattle.pfs_base.specs.FlowShop.{FlowShop}
use Rattle.pfs_iterate.specs.Iterated.{State, movable}
use Rattle.pfs_iterate.specs.Rounds.{IsIteratedFor, staying}
use Rattle.pfs_iterate.specs.Private.Steps.{IsMeasured}
use Rattle.pfs_iterate.specs.declared.iterated.Iterated.{Iterated}
use Rattle.pfs_iterate.specs.declared.options.Options.{Options}

-- the orders that are kept
abbrev pub orders_of : Iterated → State
orders_of iterated = record { current = iterated.current.order; best = iterated.best.order }

-- both orders have their makespans and the same held jobs, and enough jobs may move
pub record IsReady (shop : FlowShop) (options : Options) (stay : List ℕ) (iterated : Iterated) : Type 0 where
  pub own : IsIteratedFor shop iterated
  pub current : IsMeasured shop iterated.current.order iterated.current.span
  pub best : IsMeasured shop iterated.best.order iterated.best.span
  pub front : take options.held iterated.best.order ≡ take options.held iterated.current.order
  pub free : options.take ≤ length (movable options.held stay iterated.current.order)

-- the held jobs are the same, those that stay have the same order, and the best order is no longer; the search keeps
-- what it kept
pub record IsLater (held : ℕ) (stay : List ℕ) (old new : Iterated) : Type 0 where
  pub no_longer : new.best.span ≤ old.best.span
  pub current_front : take held new.current.order ≡ take held old.current.order
  pub best_front : take held new.best.order ≡ take held old.current.order
  pub current_staying : staying stay new.current.order ≡ staying stay old.current.order
  pub best_staying : staying stay old.best.order ≡ staying stay old.current.order
      → staying stay new.best.order ≡ staying stay old.current.order
  pub kept : new.work.search.kept ≡ old.work.search.kept
  pub cells : new.work.search.cells ≡ old.work.search.cells
