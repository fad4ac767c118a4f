use Rattle.std.proofs.Common.{◌≡◌, suc, ◌+◌, ◌-◌, ◌≤◌, get_or, replicate, ap, arith}
use Rattle.pfs_base.specs.declared.limits.TheConstants.{MOST_JOBS}
use Rattle.pfs_audit.specs.Bound.{time_on}
use Rattle.pfs_exact.proofs.RootBounds.{before_start, after_rest}
use Rattle.pfs_exact.proofs.Arrays.{all_zero}
use Rattle.pfs_exact.proofs.pairs.bound_from.Goals as goal

pub extend-requires-clause-across : goal.extend-requires-clause-across
extend-requires-clause-across c = λ job.
    let none = all_zero MOST_JOBS job in
    let small : get_or (replicate MOST_JOBS 0) job 0
    ≤ time_on c.args.instance.now.shop c.args.first (c.args.first - c.args.first) job = omega arith in
    small

pub loop-second-preserved : goal.loop-second-preserved
loop-second-preserved c =
    let shop = c.args.instance.now.shop in
    let first = c.args.first in
    let second = c.loop-second.second in
    record {
      across = λ job.
          let here = c.extend-in-loop-second.ensures job in
          let more : suc (second - first) ≡ second + 1 - first = omega arith in
          let same = ap (λ n. time_on shop first n job) more in
          omega arith;
      most = λ order sequence full.
          let before = c.loop-second.invariant.most order sequence full in
          let here = c.through_all-through.ensures.through (get_or c.args.sums.now.before first 0)
          (get_or c.args.sums.now.after second 0)
          (before_start shop first _ (c.requires.sums.before.values first c.requires.first))
          (after_rest shop second _ c.machines-second-end.ensures.within.sizes.some_job (omega arith) (c.requires.sums.after.values second (omega arith))) order sequence full in
          omega arith;
      room = omega (arith, c.loop-second.invariant.room, c.through_all-through.ensures.room);
    }
