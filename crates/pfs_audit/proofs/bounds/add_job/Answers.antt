use Rattle.std.proofs.Common.{◌≡◌, ◌+◌, ◌-◌, ◌∙◌, refl, ap, arith}
use Rattle.pfs_base.specs.FlowShop.{FlowShop, time_of, total_of}
use Rattle.pfs_base.proofs.Published.Partly.{partly_more, partly_none}
use Rattle.pfs_audit.specs.Private.Sums.{least_among, load_among}
use Rattle.pfs_audit.proofs.Published.Ranges.{greatest-range-more, sum_by-below-more, total_of-is}
use Rattle.pfs_audit.proofs.Published.SumLemmas.{least_among-more, load_among-more, load_among-le, time_on-le, time_on-parts}
use Rattle.pfs_audit.proofs.bounds.add_job.Goals as goal

pub loop-machine-init : goal.loop-machine-init
loop-machine-init c =
    let shop = c.args.instance.now.shop in
    let job = c.args.job in
    let sums = c.requires.sums in
    let more = greatest-range-more (total_of shop) job in
    let total = ap (λ (all : FlowShop). total_of all job) c.metered.ensures.shop in
    record {
      longest = omega arith;
      through = refl;
      before = partly_none _ _ _ sums.before.every;
      load = partly_none _ _ _ sums.load.every;
      after = partly_none _ _ _ sums.after.every;
    }

pub overflow_add-sums : goal.overflow_add-sums
overflow_add-sums c =
    let shop = c.args.instance.now.shop in
    let machine = c.loop-machine.machine in
    let load = c.loop-machine.invariant.load.to_do machine (omega arith)
    ∙ c.requires.sums.load.values machine (omega arith) in
    let short = load_among-le shop c.machines-machine-end.ensures.within c.args.job machine in
    omega arith

pub overflow_add-through : goal.overflow_add-through
overflow_add-through c =
    let within = c.machines-machine-end.ensures.within in
    let short = time_on-le c.args.instance.now.shop within 0 c.loop-machine.machine c.args.job in
    omega arith

pub overflow_sub-total : goal.overflow_sub-total
overflow_sub-total c =
    let shop = c.args.instance.now.shop in
    let job = c.args.job in
    let machine = c.loop-machine.machine in
    let parts = time_on-parts shop job machine (omega arith) in
    let more = sum_by-below-more (time_of shop job) machine in
    let is = total_of-is shop job in
    let total = ap (λ (all : FlowShop). total_of all job) c.metered.ensures.shop in
    omega arith

pub loop-machine-preserved : goal.loop-machine-preserved
loop-machine-preserved c =
    let shop = c.args.instance.now.shop in
    let job = c.args.job in
    let machine = c.loop-machine.machine in
    let sums = c.loop-machine.sums in
    let given = c.requires.sums in
    let old = c.args.sums.now in
    let more_jobs = job + 1 in
    let invariant = c.loop-machine.invariant in
    let parts = time_on-parts shop job machine (omega arith) in
    let more = sum_by-below-more (time_of shop job) machine in
    let is = total_of-is shop job in
    let total = ap (λ (all : FlowShop). total_of all job) c.metered.ensures.shop in
    let least_before = least_among-more shop job 0 machine in
    let load = load_among-more shop job machine in
    let least_after = least_among-more shop job (machine + 1) (shop.machines - (machine + 1)) in
    let old_before = invariant.before.to_do machine (omega arith) ∙ given.before.values machine (omega arith) in
    let old_load = invariant.load.to_do machine (omega arith) ∙ given.load.values machine (omega arith) in
    let old_after = invariant.after.to_do machine (omega arith) ∙ given.after.values machine (omega arith) in
    record {
      longest = invariant.longest;
      through = omega arith;
      before = partly_more (λ at time. time ≡ least_among shop more_jobs 0 at) shop.machines machine _ old.before
          sums.before (omega arith) invariant.before (omega arith);
      load = partly_more (λ at load. load ≡ load_among shop more_jobs at) shop.machines machine _ old.load
          sums.load (omega arith) invariant.load (omega arith);
      after = partly_more (λ at time. time ≡ least_among shop more_jobs (at + 1) (shop.machines - (at + 1)))
          shop.machines machine _ old.after sums.after (omega arith) invariant.after (omega arith);
    }
