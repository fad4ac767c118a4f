use Rattle.std.proofs.Common.{◌≡◌, ◌+◌, ◌*◌, ◌≤◌, vec_len, vec_capacity}
use Rattle.pfs_search.specs.Costs.{round_cost_on}
use Rattle.pfs_search.specs.Greedy.{after_rounds, words_of, stream_after}
use Rattle.pfs_search.specs.SearcherView.{AllFit, IsKeptSpan}
use Rattle.pfs_search.proofs.searcher.Searcher.rounds.Given as goal

-- the result of the rounds so far
abbrev pub invariant-loop-done : goal.invariant-loop-done
invariant-loop-done g l =
    let shop = g.B.Bench.shop l.fn.bench in
    let inside = l.self-inside in
    let stream = g.R.Rng.stream l.fn.rng in
    let number = g.B.Span.Length.number in
    record {
      same_shop : g.B.Bench.shop l.bench ≡ shop;
      ranked : shop.jobs ≤ vec_capacity inside.ranked;
      words : shop.jobs ≤ vec_len inside.words;
      fit : AllFit (g.B.Bench.shop l.bench) g.I.Inserter.sizes inside.work l.kept.order;
      counted : g.B.Bench.counted l.bench
          ≡ g.B.Bench.counted l.fn.bench + l.done * round_cost_on g.I.Inserter.cost shop l.take l.passes;
      order : l.kept.order
          ≡ after_rounds shop l.passes l.done l.take l.fn.kept.order (words_of (l.done * l.take) stream);
      span : IsKeptSpan shop (number l.fn.kept.span) l.kept.order (number l.kept.span);
      stream : g.R.Rng.stream l.rng ≡ stream_after (l.done * l.take) stream;
    }
