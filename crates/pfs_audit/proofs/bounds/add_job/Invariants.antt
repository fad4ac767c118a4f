use Rattle.std.proofs.Common.{◌≡◌, ◌+◌, ◌-◌, map}
use Rattle.pfs_base.specs.FlowShop.{total_of}
use Rattle.pfs_base.specs.Paths.{greatest}
use Rattle.pfs_base.proofs.Published.Partly.{Partly}
use Rattle.pfs_order.specs.Sequence.{all_jobs}
use Rattle.pfs_audit.specs.Bound.{time_on}
use Rattle.pfs_audit.specs.Private.Sums.{least_among, load_among}
use Rattle.pfs_audit.proofs.bounds.add_job.Given as goal

abbrev pub invariant-loop-machine : goal.invariant-loop-machine
invariant-loop-machine l =
    let shop = l.instance.shop in
    let more = l.job + 1 in
    record {
      longest : l.sums.longest ≡ greatest (map (total_of shop) (all_jobs more));
      through : l.through ≡ time_on shop 0 l.machine l.job;
      before : Partly (λ machine time. time ≡ least_among shop more 0 machine) shop.machines l.machine l.fn.sums.before
          l.sums.before;
      load : Partly (λ machine load. load ≡ load_among shop more machine) shop.machines l.machine l.fn.sums.load
          l.sums.load;
      after : Partly (λ machine time. time ≡ least_among shop more (machine + 1) (shop.machines - (machine + 1)))
          shop.machines l.machine l.fn.sums.after l.sums.after;
    }
