use Rattle.std.proofs.Common.{◌≡◌, ◌-◌}
use Rattle.pfs_base.specs.Paths.{makespan}
use Rattle.pfs_iterate.specs.Iterated.{settled}
use Rattle.pfs_iterate.specs.Private.Steps.{IsRearranged}
use Rattle.pfs_iterate.specs.Private.Memory.{IsWorkAfter}
use Rattle.pfs_iterate.proofs.improve.improve.Given as goal

abbrev pub invariant-loop-made : goal.invariant-loop-made
invariant-loop-made l =
    let shop = l.instance.shop in
    record {
      jobs : settled shop l.options l.list (l.passes - l.made) l.work.seq.jobs
          ≡ settled shop l.options l.list l.passes l.fn.work.seq.jobs;
      span : l.before ≡ makespan shop l.work.seq.jobs;
      same : IsRearranged l.options.held l.fn.work.seq l.work.seq;
      work : IsWorkAfter shop l.fn.work l.work;
    }
