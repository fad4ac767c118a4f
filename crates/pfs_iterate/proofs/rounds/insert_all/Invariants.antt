use Rattle.std.proofs.Common.{◌≡◌, ◌+◌, ◌<◌, ◌++◌, length, take, drop, fold}
use Rattle.pfs_base.specs.Paths.{makespan}
use Rattle.pfs_order.specs.Sequence.{IsSequence}
use Rattle.pfs_iterate.specs.Iterated.{put}
use Rattle.pfs_iterate.specs.Private.Memory.{IsWorkAfter}
use Rattle.pfs_iterate.proofs.rounds.insert_all.Given as goal

abbrev pub invariant-loop-job : goal.invariant-loop-job
invariant-loop-job l =
    let shop = l.instance.shop in
    record {
      together : IsSequence shop.jobs (drop l.job-index l.jobs ++ l.work.seq.jobs);
      jobs : fold (put shop l.options) l.work.seq.jobs (drop l.job-index l.jobs)
          ≡ fold (put shop l.options) l.fn.work.seq.jobs l.jobs;
      count : length l.work.seq.jobs ≡ length l.fn.work.seq.jobs + l.job-index;
      front : take l.options.held l.work.seq.jobs ≡ take l.options.held l.fn.work.seq.jobs;
      work : IsWorkAfter shop l.fn.work l.work;
      span : 0 < l.job-index → l.span ≡ makespan shop l.work.seq.jobs;
    }
