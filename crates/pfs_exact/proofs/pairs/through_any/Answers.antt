use Rattle.std.proofs.Common.{◌+◌, ◌<◌, ◌≤◌, ap, drop, length, sum_by, take, arith}
use Rattle.std.proofs.lemmas.List.{length-map}
use Rattle.std.proofs.lemmas.List.Sums.{sum_by_more}
use Rattle.std.proofs.lemmas.List.Sorted.{sum_by-IsPermutation}
use Rattle.pfs_order.specs.Sequence.{all_jobs}
use Rattle.pfs_exact.specs.Private.Lags.{Lag, shorter_of}
use Rattle.pfs_exact.proofs.JobsByLag.{entry_is, jobs, many, sum_drop, time_in, up_to}
use Rattle.pfs_exact.proofs.TwoMachines.{through_ahead, through_behind, through_none}
use Rattle.pfs_exact.proofs.pairs.through_any.Goals as goal

pub loop-turn-init : goal.loop-turn-init
loop-turn-init c =
    let shop = c.args.instance.now.shop in
    let are = c.list_lags-left.ensures.lags in
    let some = c.jobs-turn-end.ensures.within.sizes.some_job in
    let all = sum_by-IsPermutation (shorter_of shop c.args.near c.args.far) (all_jobs shop.jobs) _ are.jobs in
    record {
      done = omega arith;
      left = omega (arith, all, c.list_lags-left.ensures.sum);
      ahead = λ later across. through_none shop c.args.near c.args.far later some;
      behind = λ later across. through_none shop c.args.far c.args.near later some;
    }

pub index-requires : goal.index-requires
index-requires c =
    let all = many c.args.instance.now.shop c.args.near c.args.far c.args.across.now _ c.list_lags-left.ensures.lags in
    omega (arith, all, c.list_lags-left.new.lags.ok.0, c.loop-turn-test.true, c.jobs-turn-end.ensures.value)

pub time-requires-clause-job : goal.time-requires-clause-job
time-requires-clause-job c =
    let entry = entry_is c.args.instance.now.shop c.args.near c.args.far c.args.across.now _ c.list_lags-left.ensures.lags
    c.loop-turn.turn c.index.result.now (omega (arith, c.loop-turn-test.true, c.jobs-turn-end.ensures.value)) c.index.ensures in
    omega (arith, entry.small)

pub time-requires-in-loop-turn-clause-job : goal.time-requires-in-loop-turn-clause-job
time-requires-in-loop-turn-clause-job c =
    let entry = entry_is c.args.instance.now.shop c.args.near c.args.far c.args.across.now _ c.list_lags-left.ensures.lags
    c.loop-turn.turn c.index.result.now (omega (arith, c.loop-turn-test.true, c.jobs-turn-end.ensures.value)) c.index.ensures in
    omega (arith, entry.small)

pub offset_bounds-across-job : goal.offset_bounds-across-job
offset_bounds-across-job c =
    let entry = entry_is c.args.instance.now.shop c.args.near c.args.far c.args.across.now _ c.list_lags-left.ensures.lags
    c.loop-turn.turn c.index.result.now (omega (arith, c.loop-turn-test.true, c.jobs-turn-end.ensures.value)) c.index.ensures in
    omega (arith, entry.small, c.jobs-turn-end.ensures.within.sizes.few_jobs)

pub bounds-across-job : goal.bounds-across-job
bounds-across-job c =
    let entry = entry_is c.args.instance.now.shop c.args.near c.args.far c.args.across.now _ c.list_lags-left.ensures.lags
    c.loop-turn.turn c.index.result.now (omega (arith, c.loop-turn-test.true, c.jobs-turn-end.ensures.value)) c.index.ensures in
    omega (arith, entry.small, c.jobs-turn-end.ensures.within.sizes.few_jobs)

pub overflow_sub-across : goal.overflow_sub-across
overflow_sub-across c =
    let entry = entry_is c.args.instance.now.shop c.args.near c.args.far c.args.across.now _ c.list_lags-left.ensures.lags
    c.loop-turn.turn c.index.result.now (omega (arith, c.loop-turn-test.true, c.jobs-turn-end.ensures.value)) c.index.ensures in
    omega (arith, entry.lag)

pub loop-turn-preserved : goal.loop-turn-preserved
loop-turn-preserved c =
    let shop = c.args.instance.now.shop in
    let near = c.args.near in
    let far = c.args.far in
    let across = c.args.across.now in
    let lags = c.list_lags-left.new.lags.items in
    let are = c.list_lags-left.ensures.lags in
    let turn = c.loop-turn.turn in
    let invariant = c.loop-turn.invariant in
    let lag = c.index.result.now.0.0 in
    let job = c.index.result.now.1 in
    let listed = jobs shop near far across lags are in
    let below : turn < shop.jobs = omega (arith, c.loop-turn-test.true, c.jobs-turn-end.ensures.value) in
    let entry = entry_is shop near far across lags are turn c.index.result.now below c.index.ensures in
    let inside : turn < length listed =
    omega (arith, below, many shop near far across lags are, length-map lags (λ (e : Lag). e.1)) in
    let done_le : c.plus-done.result ≤ sum_by (time_in shop far across) (take (turn + 1) listed) = omega (
      arith,
      c.plus-done.ensures,
      invariant.done,
      sum_by_more (time_in shop far across) listed turn 0 inside,
      ap (time_in shop far across) entry.place,
      entry.lag,
    ) in
    let left_le : c.saturating_sub-left.result ≤ sum_by (shorter_of shop near far) (drop (turn + 1) listed) = omega (
      arith,
      c.saturating_sub-left.ensures,
      c.from.ensures,
      c.min-shorter.ensures,
      c.time.ensures.value,
      c.time-in-loop-turn.ensures.value,
      invariant.left,
      sum_drop (shorter_of shop near far) listed turn inside,
      ap (shorter_of shop near far) entry.place,
    ) in
    let number = c.plus-in-loop-turn.result in
    let low = up_to shop near far across lags are turn lag c.plus-done.result c.saturating_sub-left.result number
    c.index.result.now (omega (arith, below, many shop near far across lags are)) (ap (λ (e : Lag). e.0.0) c.index.ensures)
    done_le left_le (omega (arith, c.plus.ensures, c.plus-in-loop-turn.ensures)) in
    record {
      done = done_le;
      left = left_le;
      ahead = λ later wide start rest starts rests order sequence full.
          let before = invariant.ahead later wide start rest starts rests order sequence full in
          let here = through_ahead shop across job entry.small near far lag number later entry.lag wide low start rest
          starts rests order sequence full in
          omega (arith, before, here, c.max-most.ensures);
      behind = λ later wide start rest starts rests order sequence full.
          let before = invariant.behind later wide start rest starts rests order sequence full in
          let here = through_behind shop across job entry.small far near lag number later entry.lag wide low start rest
          starts rests order sequence full in
          omega (arith, before, here, c.max-most.ensures);
    }
