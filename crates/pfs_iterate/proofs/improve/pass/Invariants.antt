use Rattle.std.proofs.Common.{◌≡◌, drop, fold}
use Rattle.pfs_base.specs.Paths.{makespan}
use Rattle.pfs_iterate.specs.Iterated.{moved}
use Rattle.pfs_iterate.specs.Private.Steps.{IsRearranged}
use Rattle.pfs_iterate.specs.Private.Memory.{IsWorkAfter}
use Rattle.pfs_iterate.proofs.improve.pass.Given as goal

abbrev pub invariant-loop-job : goal.invariant-loop-job
invariant-loop-job l =
    let shop = l.instance.shop in
    record {
      jobs : fold (moved shop l.options) l.work.seq.jobs (drop l.job-index l.list)
          ≡ fold (moved shop l.options) l.fn.work.seq.jobs l.list;
      span : l.span ≡ makespan shop l.work.seq.jobs;
      same : IsRearranged l.options.held l.fn.work.seq l.work.seq;
      work : IsWorkAfter shop l.fn.work l.work;
    }
