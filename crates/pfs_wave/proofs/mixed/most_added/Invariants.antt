use Rattle.std.proofs.Common.{◌*◌, ◌≤◌}
use Rattle.pfs_base.specs.FlowShop.{time_of}
use Rattle.pfs_wave.proofs.PartLaws.{AreAlone}
use Rattle.pfs_wave.proofs.mixed.most_added.Given as goal

abbrev pub invariant-loop-machine : goal.invariant-loop-machine
invariant-loop-machine l = record {
  alone_small : l.alone ≤ l.machine * 1000000000;
  both_small : l.both ≤ l.machine * 2000000000;
  less : l.alone ≤ l.both;
  are : AreAlone (time_of (record { jobs = l.bench.jobs; machines = l.bench.machines; times = l.bench.times.now }) l.last) (time_of (record { jobs = l.bench.jobs; machines = l.bench.machines; times = l.bench.times.now }) l.job) l.machine l.alone l.both;
}
