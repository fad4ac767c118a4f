use Rattle.std.proofs.Common.{◌≡◌, ◌+◌, ◌-◌, ◌∙◌, refl, arith}
use Rattle.pfs_base.specs.declared.limits.TheConstants.{MOST_MACHINES}
use Rattle.pfs_audit.specs.declared.bounds.TheConstants.{LONGEST_TOTAL}
use Rattle.pfs_audit.proofs.Published.SumLemmas.{all_same, least_among-is}
use Rattle.pfs_audit.proofs.bounds.sums_of.Goals as goal

pub loop-job-init : goal.loop-job-init
loop-job-init c =
    let shop = c.args.instance.now.shop in
    let few = c.jobs-job-end.ensures.within.sizes.few_machines in
    record {
      longest = refl;
      before = all_same shop.machines MOST_MACHINES LONGEST_TOTAL (omega arith);
      load = all_same shop.machines MOST_MACHINES 0 (omega arith);
      after = all_same shop.machines MOST_MACHINES LONGEST_TOTAL (omega arith);
    }

pub returns : goal.returns
returns c =
    let shop = c.args.instance.now.shop in
    let within = c.jobs-job-end.ensures.within in
    let sizes = within.sizes in
    let all : c.loop-job.job ≡ shop.jobs = omega (arith, c.jobs-job-end.ensures.value) in
    let sums = rw all at c.loop-job.invariant in
    record {
      longest = sums.longest;
      before = record {
        every = sums.before.every;
        values = λ machine lt. sums.before.values machine lt
            ∙ least_among-is shop within shop.jobs 0 machine sizes.some_job (omega (arith, lt, sizes));
      };
      load = sums.load;
      after = record {
        every = sums.after.every;
        values = λ machine lt. sums.after.values machine lt
            ∙ least_among-is shop within shop.jobs (machine + 1) (shop.machines - (machine + 1)) sizes.some_job
            (omega (arith, lt, sizes));
      };
    }
