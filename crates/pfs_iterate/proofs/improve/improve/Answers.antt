use Rattle.std.proofs.Common.{◌<◌, sym, ◌∙◌, ap, arith}
use Rattle.pfs_base.specs.Paths.{makespan}
use Rattle.pfs_iterate.proofs.Keeping.{work_then}
use Rattle.pfs_iterate.proofs.Passes.{after_pass, settled_goes_on}
use Rattle.pfs_iterate.proofs.Rearranging.{rearranged-trans}
use Rattle.pfs_iterate.proofs.improve.improve.Goals as goal

pub loop-made-preserved : goal.loop-made-preserved
loop-made-preserved c =
    let shop = c.args.instance.now.shop in
    let list = c.args.list.now in
    let jobs = c.loop-made.work.seq.jobs in
    let invariant = c.loop-made.invariant in
    let gives = c.pass-after.ensures in
    let shorter : makespan shop (after_pass shop c.args.options.now list jobs c.args.passes c.loop-made.made c.loop-made-test.true)
    < makespan shop jobs = omega (arith, ap (makespan shop) gives.jobs, gives.span, invariant.span) in
    record {
      jobs = rw gives.jobs (sym (settled_goes_on shop c.args.options.now list jobs c.args.passes c.loop-made.made
          c.loop-made-test.true shorter) ∙ invariant.jobs);
      span = gives.span;
      same = rearranged-trans c.args.options.now.held _ _ _ invariant.same gives.same;
      work = work_then shop _ _ _ invariant.work gives.work;
    }
