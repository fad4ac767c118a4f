use Rattle.std.proofs.Common.{◌≡◌, ℕ, ◌+◌, ◌*◌, ◌<◌, ◌≤◌, length, take as front, ap, sym, ◌∙◌, arith, rules}
use Rattle.std.proofs.Math.Nat.{mul-le-mul_right, le_trans, lt_of_le_of_lt}
use Rattle.std.proofs.lemmas.List.{length-take-le}
use Rattle.pfs_search.specs.Greedy.{words_of, stream_after}
use Rattle.pfs_search.proofs.Published.Words.{length-words_of}
use Rattle.pfs_search.proofs.Words.{rounds_more, stream_group}
use Rattle.pfs_search.proofs.searcher.Searcher.rounds.Goals as goal

-- the cells of the rounds so far and one more are at most those of all rounds
next_fits : (old now cells done count : ℕ) → done < count → now ≡ old + done * cells → now + cells ≤ old + count * cells
next_fits old now cells done count lt so_far =
    let all : (done + 1) * cells ≤ count * cells = mul-le-mul_right cells (omega arith) in omega arith

pub play_round-requires-clause-room : goal.play_round-requires-clause-room
play_round-requires-clause-room g c =
    let invariant = c.loop-done.invariant in
    let long = length-take-le c.args.take c.deref.result.now (omega (arith, invariant.words)) in
    rw (long, invariant.same_shop) (lt_of_le_of_lt (next_fits _ (g.B.Bench.counted c.loop-done.bench) _ c.loop-done.done
    c.args.count c.loop-done-test.true invariant.counted) c.requires.room)

pub returns-in-Err-clause-effect : goal.returns-in-Err-clause-effect
returns-in-Err-clause-effect g c =
    let invariant = c.loop-done.invariant in
    let long = length-take-le c.args.take c.deref.result.now (omega (arith, invariant.words)) in
    let failed = c.in-Err.ensures.effect.cells in
    record {
      cells = record {
        counted = tt;
        fault_low = omega (arith, failed.fault_low, invariant.counted);
        fault_high = le_trans (rw (long, invariant.same_shop) at failed.fault_high)
            (next_fits (g.B.Bench.counted c.args.bench.now) _ _ c.loop-done.done c.args.count
            c.loop-done-test.true invariant.counted);
      };
      succeeds = search rules;
      still = search rules;
    }

pub returns-in-Err-clause-fault : goal.returns-in-Err-clause-fault
returns-in-Err-clause-fault g c = (
  c.loop-done-test.true,
  ap (λ k. k.order) c.in-Err.ensures.order ∙ c.loop-done.invariant.order,
  rw (c.draw_words.ensures.drawn.stream_is, c.loop-done.invariant.stream)
      (sym (stream_group c.loop-done.done c.args.take (g.R.Rng.stream c.args.rng.now))),
)

pub loop-done-preserved : goal.loop-done-preserved
loop-done-preserved g c =
    let take = c.args.take in
    let done = c.loop-done.done in
    let shop = g.B.Bench.shop c.args.bench.now in
    let s = g.R.Rng.stream c.args.rng.now in
    let invariant = c.loop-done.invariant in
    let gives = c.in-Ok.ensures in
    let drawn : front take c.deref.result.now ≡ words_of take (stream_after (done * take) s) =
    ap (front take) c.deref.ensures.value ∙ c.draw_words.ensures.drawn.words_are
    ∙ ap (words_of take) invariant.stream in
    let long : length (front take c.deref.result.now) ≡ take = rw drawn (length-words_of take _) in
    let counted = rw (long, invariant.same_shop) at gives.effect.cells.counted in
    let falls = gives.span.never_rises in
    record {
      same_shop = gives.effect.still.shop ∙ invariant.same_shop;
      ranked = invariant.ranked;
      words = omega (arith, c.draw_words.ensures.len, invariant.words);
      fit = gives.effect.still.fit;
      counted = omega (arith, invariant.counted);
      order = rw (gives.order, invariant.same_shop, drawn, invariant.order)
          (sym (rounds_more shop c.args.passes take done c.args.kept.now.order s));
      span = record {
        span_is = rw (← invariant.same_shop) gives.span.span_is;
        never_rises = omega (arith, invariant.span.never_rises);
      };
      stream = rw (c.draw_words.ensures.drawn.stream_is, invariant.stream) (sym (stream_group done take s));
    }
