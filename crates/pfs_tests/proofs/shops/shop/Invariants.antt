use Rattle.std.proofs.Common.{◌≡◌}
use Rattle.pfs_tests.proofs.shops.shop.Given as goal

abbrev pub invariant-loop-job : goal.invariant-loop-job
invariant-loop-job l = record {
  jobs : l.instance.shop.jobs ≡ l.jobs;
  machines : l.instance.shop.machines ≡ l.machines;
}

abbrev pub invariant-loop-machine : goal.invariant-loop-machine
invariant-loop-machine l = record {
  jobs : l.instance.shop.jobs ≡ l.jobs;
  machines : l.instance.shop.machines ≡ l.machines;
}
