-- Loops that move jobs: what holds after some of the moves.
use Rattle.std.proofs.Common.{◌≡◌, ℕ, ◌+◌, List, arith, refl, ◌∙◌}
use Rattle.pfs_base.specs.FlowShop.{FlowShop}
use Rattle.pfs_order.specs.Sequence.{Sequence}
use Rattle.pfs_insert.specs.Inserter.{Sizes}
use Rattle.pfs_search.specs.Private.Steps.{IsBuilt, StillFits}

-- the shop is the same as before, all sizes still fit, `cost` cells were counted, and the sequence is the one to be made
pub record IsMoved (shop now : FlowShop) (inserter : Sizes) (seq : Sequence) (start counted cost : ℕ) (made : List ℕ)
    (span : ℕ) : Type 0 where
  pub still : StillFits shop now inserter seq.size
  pub counts : counted ≡ start + cost
  pub built : IsBuilt shop seq.jobs made shop.jobs span

-- one more move, which makes `step` of the sequence, at a cost
pub move_on : {shop now next : FlowShop} {inserter later : Sizes} {seq new : Sequence} {start before after : ℕ}
    {done all : ℕ} {made wanted : List ℕ} {old_span span : ℕ} (step : FlowShop → List ℕ → List ℕ) (cost : FlowShop → ℕ)
    → IsMoved shop now inserter seq start before done made old_span → after ≡ before + cost now
    → StillFits now next later new.size → IsBuilt now new.jobs (step now seq.jobs) now.jobs span
    → all ≡ done + cost shop → wanted ≡ step shop made → IsMoved shop next later new start after all wanted span
move_on step cost moved counted still built all wanted =
    let same = moved.still.shop in
    let spent = rw same at counted in
    record {
      still = record { shop = still.shop ∙ same; fits = still.fits };
      counts = omega (arith, moved.counts, spent, all);
      built = record {
        jobs_are = rw (built.jobs_are, same, moved.built.jobs_are, wanted) refl;
        has_span = rw (← same) built.has_span;
      };
    }
