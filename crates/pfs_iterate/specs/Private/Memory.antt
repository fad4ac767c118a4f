-- What the memory of rounds holds.
use Rattle.std.specs.Prelude.{◌≡◌, ℕ, ◌+◌, ◌*◌, ◌<◌, ◌≤◌, List, length, vec_capacity}
use Rattle.std.specs.List.{All, slice_index_or}
use Rattle.pfs_base.specs.FlowShop.{FlowShop}
use Rattle.pfs_base.specs.Heads.{head_of}
use Rattle.pfs_search.specs.Search.{IsSearchOf}
use Rattle.pfs_search.specs.declared.search.Search.{Search}
use Rattle.pfs_iterate.specs.declared.heads.Heads.{Heads}
use Rattle.pfs_iterate.specs.declared.places.Places.{Places}
use Rattle.pfs_iterate.specs.declared.work.Lists.{Lists}
use Rattle.pfs_iterate.specs.declared.work.Work.{Work}

-- rows for all jobs of the shop: the first one, and after it one for each of these jobs, have the heads of the jobs so
-- far
pub record AreRows (shop : FlowShop) (jobs rows : List ℕ) : Type 0 where
  pub few : length jobs ≤ shop.jobs
  pub small : All (λ job. job < shop.jobs) jobs
  pub long : length rows ≡ (shop.jobs + 1) * shop.machines
  pub each : (row machine : ℕ) → row ≤ length jobs → machine < shop.machines
      → slice_index_or rows (row * shop.machines + machine) 0 ≡ head_of shop jobs row machine

-- the rows of some jobs, with room for all
pub record AreHeads (shop : FlowShop) (heads : Heads) : Type 0 where
  pub rows : AreRows shop heads.jobs.items heads.rows.items
  pub room : shop.jobs ≤ vec_capacity heads.jobs

-- memory to choose the places of jobs of a shop
pub record IsPlacesFor (shop : FlowShop) (places : Places) : Type 0 where
  pub spans : length places.spans.items ≡ shop.jobs + 1
  pub heads : AreHeads shop places.heads

-- a sequence of jobs of a shop, and memory to search and to choose places
pub record IsWorkFor (shop : FlowShop) (work : Work) : Type 0 where
  pub search : IsSearchOf shop work.search
  pub size : work.seq.size ≡ shop.jobs
  pub places : IsPlacesFor shop work.places

-- a search of a shop that still keeps its order, makespan and count
pub record IsSearchAfter (shop : FlowShop) (old new : Search) : Type 0 where
  pub still : IsSearchOf shop new
  pub kept : new.kept ≡ old.kept
  pub cells : new.cells ≡ old.cells

-- the same of what rounds work with
pub record IsWorkAfter (shop : FlowShop) (old new : Work) : Type 0 where
  pub still : IsWorkFor shop new
  pub kept : new.search.kept ≡ old.search.kept
  pub cells : new.search.cells ≡ old.search.cells

-- lists with room for all jobs of a shop
pub record AreLists (shop : FlowShop) (lists : Lists) : Type 0 where
  pub removed : shop.jobs ≤ vec_capacity lists.removed
  pub ranks : shop.jobs ≤ vec_capacity lists.ranks
  pub visits : shop.jobs ≤ vec_capacity lists.visits
