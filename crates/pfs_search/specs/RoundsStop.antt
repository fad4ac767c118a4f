-- The result of rounds where memory allocation fails in one of them.
use Rattle.std.specs.Prelude.{◌≡◌, ℕ, ◌+◌, ◌*◌, ◌<◌, List}
use Rattle.rand_core.specs.Stream.{Stream}
use Rattle.pfs_base.specs.FlowShop.{FlowShop}
use Rattle.pfs_search.specs.Greedy.{after_rounds, words_of, stream_after}
use Rattle.pfs_search.specs.declared.fault.SearchFault.{SearchFault}
use Rattle.pfs_search.specs.declared.fault.SearchFault.TheVariants.{Memory}

-- `done` of the `count` rounds are completed, the order is the one after them, and the random words of one more round
-- are drawn
abbrev pub RoundsStop : FlowShop → ℕ → ℕ → ℕ → List ℕ → List ℕ → Stream → Stream → SearchFault → Type 0
RoundsStop shop passes count take old new before after (Memory done) =
    (done < count)
    × (new ≡ after_rounds shop passes done take old (words_of (done * take) before))
    × (after ≡ stream_after ((done + 1) * take) before)
